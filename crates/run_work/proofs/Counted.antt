-- What came into hand of a slave of a serving, counted.
use Rattle.std.proofs.Common.{◌≡◌, ℕ, zero, suc, ◌+◌, ◌*◌, ◌≤◌, ◌==◌, ◌||◌, Bool, true, false, All, Option, Some, None, List, [], ◌∷◌, ◌++◌, length, take, filter, refl, sym, ap, ◌∙◌, subst, arith, cond, length-append, if◌then◌else◌}
use Rattle.std.specs.Prelude.{◌%◌, nat_lt, sum_by, slice_get}
use Rattle.std.proofs.lemmas.List.Elements.{All-head, All-tail}
use Rattle.std.proofs.lemmas.List.Sums.{sum_by-cons, sum_by-append}
use Rattle.life_counts.specs.of_life_model.Script.{eras_started, life_started}
use Rattle.life_counts.specs.of_protocol_models.EoeClient as EoeClient
use Rattle.life_counts.specs.Begun.{service_most, begun_most}
use Rattle.life_counts.specs.of_life_model.Lives.{Era, Life}
use Rattle.plan_ring.specs.of_life_runs.Led.{Comes}
use Rattle.life_counts.specs.of_master_hand.Spoken.{Asked, net, passed, is_passed}
use Rattle.life_counts.specs.of_master_hand.Talk.{asked_of}
use Rattle.life_counts.specs.of_few_replies.Steps.{passed_one, passed_in, eras_passed, life_passed}
use Rattle.life_counts.specs.Asked.{asked_most}
use Rattle.life_counts.specs.Split.{own_work, entering}
use Rattle.plan_ring.specs.of_run_frames.States.{state_of}
use Rattle.run_work.proofs.Together.{whole_work}
use Rattle.plan_ring.specs.of_run_frames.Came.{is_packet}
use Rattle.life_counts.specs.of_segment_plan.Sound.{IsSlave, IsService}
use Rattle.life_counts.specs.of_segment_plan.declared.service.Service as Plan
use Rattle.life_counts.specs.of_segment_plan.declared.slave.SlaveSpec.{SlaveSpec}
use Rattle.plan_ring.specs.of_life_runs.Came.{ServedCame, AreAmong}
use Rattle.plan_ring.specs.of_life_runs.Served.{Keyed}
use Rattle.run_work.specs.ServedGained.{serving_most}
use Rattle.life_counts.specs.of_few_replies.Shapes.{shape_of}
use Rattle.life_counts.specs.of_slave_server.Spec.{core_of, profile_of}
use Rattle.life_counts.specs.of_state_model.Stated.{Service}
use Rattle.life_counts.specs.of_state_model.Accounts.{Started}
use Rattle.life_counts.specs.of_state_model.Promise.{services_in}

-- none or one
abbrev listed : Option (Service Asked) → List (Service Asked)
listed None = []
listed (Some q) = q ∷ []

-- one more at the end
filter_last : {X : Type 0} (f : X → ℕ) (p : X → Bool) (xs : List X) (x : X) → sum_by f (filter p (xs ++ x ∷ [])) ≡ sum_by f (filter p xs) + sum_by f (filter p (x ∷ []))
filter_last f p [] x = omega arith
filter_last f p (y ∷ ys) x = by (p y) (filter_last f p ys x)
  where
    by : (b : Bool) → sum_by f (filter p (ys ++ x ∷ [])) ≡ sum_by f (filter p ys) + sum_by f (filter p (x ∷ [])) →
        sum_by f (cond b (y ∷ filter p (ys ++ x ∷ [])) (filter p (ys ++ x ∷ []))) ≡ sum_by f (cond b (y ∷ filter p ys) (filter p ys)) + sum_by f (filter p (x ∷ []))
    by true e = omega (arith, sum_by-cons f y (filter p (ys ++ x ∷ [])), sum_by-cons f y (filter p ys), e)
    by false e = e

take_last : {X : Type 0} (f : X → ℕ) (xs : List X) (n : ℕ) (x : X) → slice_get xs n ≡ Some x → sum_by f (take (suc n) xs) ≡ sum_by f (take n xs) + f x
take_last f [] n x at = absurd (cc)
take_last f (y ∷ ys) zero x at = let is : y ≡ x = cc in omega (arith, sum_by-cons f y [], ap f is)
take_last f (y ∷ ys) (suc n) x at = omega (arith, sum_by-cons f y (take (suc n) ys), sum_by-cons f y (take n ys), take_last f ys n x at)

all_at : {X : Type 0} (P : X → Type 0) (xs : List X) (n : ℕ) (x : X) → slice_get xs n ≡ Some x → All P xs → P x
all_at P [] n x at all = absurd (cc)
all_at P (y ∷ ys) zero x at all = let is : y ≡ x = cc in subst P is (All-head P y ys all)
all_at P (y ∷ ys) (suc n) x at all = all_at P ys n x at (All-tail P y ys all)

some_is : {X : Type 0} {x y : X} → Some x ≡ Some y → x ≡ y
some_is e = cc

-- no service of a script is a mail that is passed on
abbrev pub passes : Option Asked → Bool
passes None = false
passes (Some q) = is_passed q

set_passes : (b : Bool) (block : List ℕ) → passes (if b then None else Some (net (EoeClient.set_ip block))) ≡ false
set_passes true block = refl
set_passes false block = refl

pub none_passes : (room : ℕ) (t : Plan.Service) → passes (asked_of room t) ≡ false
none_passes room (Plan.Service.Sdo service) = refl
none_passes room (Plan.Service.ReadFile name pass) = refl
none_passes room (Plan.Service.WriteFile name pass bytes) = refl
none_passes room (Plan.Service.ReadIdn drive idn elements) = refl
none_passes room (Plan.Service.WriteIdn drive idn elements bytes) = refl
none_passes room (Plan.Service.SetIp block) = set_passes (nat_lt room (length block + 10)) block
none_passes room Plan.Service.GetIp = refl
none_passes room (Plan.Service.State target) = refl
none_passes room (Plan.Service.Forward packet) = refl

-- what the services of a script owe
abbrev pub Enough : Type 0
Enough = (room : ℕ) (s : SlaveSpec) (service : Plan.Service) (q : Asked) → IsSlave s → IsService service → asked_of room service ≡ Some q → asked_most (profile_of s) (shape_of (core_of s)) q ≤ own_work s service + entering service

module _ (enough : Enough) (s : SlaveSpec) (slave : IsSlave s) where
  abbrev own : Asked → ℕ
  own = asked_most (profile_of s) (shape_of (core_of s))

  abbrev pub most : Asked → ℕ
  most = serving_most (profile_of s) (shape_of (core_of s))

  -- the steps that the mails among these come, and how often these reopen their slave
  abbrev pub steps : List (Service Asked) → ℕ
  steps qs = 4 * sum_by (passed_one is_passed) qs + sum_by state_of qs

  abbrev packets : List (Service Asked) → ℕ
  packets qs = begun_most own (filter is_packet qs)

  state_less : (b : Bool) → 6 + 1 ≤ (if b then 24 else 8) + 0
  state_less true = omega arith
  state_less false = omega arith

  -- what isn't passed on counts its own
  mails_own : (q : Asked) → is_passed q ≡ false → most q ≡ own q
  mails_own q unpassed = ap (λ (b : Bool). own q + (if b then 2 + 76 else 0)) unpassed ∙ (let e : own q + 0 ≡ own q = omega arith in e)

  no_step : (q : Asked) → is_passed q ≡ false → passed_one is_passed (Service.Mails q) ≡ 0
  no_step q unpassed = ap (λ (b : Bool). if b then 1 else 0) unpassed

  module _ (room : ℕ) (script : List Plan.Service) (services : All (λ (t : Plan.Service). IsService t) script) where
    -- ONE MORE of the script, or a packet
    one_more : (n m : ℕ) (b : Option (Service Asked)) → Comes room script n b m → begun_most most (listed b) + steps (listed b) + sum_by (whole_work s) (take n script) ≤ sum_by (whole_work s) (take m script) + packets (listed b)
    one_more n _ _ Comes.none = omega arith
    one_more n _ _ (Comes.mails t q at asks) =
        let unpassed : is_passed q ≡ false = ap passes (sym asks) ∙ none_passes room t in
        let fits = enough room s t q slave (all_at (λ (t : Plan.Service). IsService t) script n t at services) asks in
        omega (
          arith,
          sum_by-cons (service_most most) (Service.Mails q) [],
          sum_by-cons (passed_one is_passed) (Service.Mails q) [],
          sum_by-cons state_of (Service.Mails q) [],
          mails_own q unpassed,
          no_step q unpassed,
          fits,
          take_last (whole_work s) script n t at,
        )
    one_more n _ _ (Comes.state target at) =
        let q : Service Asked = Service.State (target % 16) in
        omega (
          arith,
          sum_by-cons (service_most most) q [],
          sum_by-cons (passed_one is_passed) q [],
          sum_by-cons state_of q [],
          state_less (target == 1 || target == 3),
          take_last (whole_work s) script n (Plan.Service.State target) at,
        )
    one_more n _ _ (Comes.packet octets frame) =
        let q : Service Asked = Service.Mails (net (EoeClient.packet octets frame)) in
        omega (arith, sum_by-cons (service_most most) q [], sum_by-cons (passed_one is_passed) q [], sum_by-cons state_of q [], sum_by-cons (service_most own) q [])

    pub all_came : (n : ℕ) (ks : List Keyed) (qs : List (Service Asked)) → ServedCame room script n ks qs → begun_most most qs + steps qs ≤ sum_by (whole_work s) (take n script) + packets qs + 82 * length ks
    all_came _ _ _ ServedCame.none = omega arith
    all_came _ _ _ (ServedCame.own n m ks qs q came comes) =
        omega (
          arith,
          all_came n ks qs came,
          one_more n m (Some q) comes,
          sum_by-append (service_most most) qs (q ∷ []),
          sum_by-append (passed_one is_passed) qs (q ∷ []),
          sum_by-append state_of qs (q ∷ []),
          filter_last (service_most own) is_packet qs q,
        )
    -- a mail
    all_came _ _ _ (ServedCame.mail n ks qs k came) =
        let q : Service Asked = Service.Mails (passed k.mail) in
        omega (
          arith,
          all_came n ks qs came,
          sum_by-append (service_most most) qs (q ∷ []),
          sum_by-cons (service_most most) q [],
          sum_by-append (passed_one is_passed) qs (q ∷ []),
          sum_by-cons (passed_one is_passed) q [],
          sum_by-append state_of qs (q ∷ []),
          sum_by-cons state_of q [],
          filter_last (service_most own) is_packet qs q,
          length-append ks (k ∷ []),
        )

-- ---- the mails among what began, of a life
started_passed : {Q : Type 0} (is : Q → Bool) (ss : List (Started Q)) → passed_in is ss ≡ sum_by (passed_one is) (services_in ss)
started_passed is [] = refl
started_passed is (s ∷ ss) = omega (arith, sum_by-cons (passed_one is) s.service (services_in ss), started_passed is ss)

eras_all : {M Q R : Type 0} (is : Q → Bool) (es : List (Era M Q R)) → eras_passed is es ≡ sum_by (passed_one is) (eras_started es)
eras_all is [] = refl
eras_all is (e ∷ es) = omega (arith, started_passed is e.account.started, eras_all is es, sum_by-append (passed_one is) (services_in e.account.started) (eras_started es))

pub life_all : {M Q R : Type 0} (is : Q → Bool) (l : Life M Q R) → life_passed is l ≡ sum_by (passed_one is) (life_started l)
life_all is l = omega (arith, eras_all is l.past, started_passed is l.era.account.started, sum_by-append (passed_one is) (eras_started l.past) (services_in l.era.account.started))

-- those that were passed on and those that wait are no more than were asked
pub among_fewer : (ks ls : List Keyed) → AreAmong ks ls → length ks ≤ length ls
among_fewer _ _ AreAmong.none = omega arith
among_fewer _ _ (AreAmong.takes k ks ls a) = omega (arith, among_fewer ks ls a)
among_fewer _ _ (AreAmong.skips l ks ls a) = omega (arith, among_fewer ks ls a)
