-- What came into hand, counted: all epochs in one list, its packets apart.
use Rattle.std.proofs.Common.{◌≡◌, ℕ, ◌+◌, Bool, true, false, List, [], ◌∷◌, filter, refl, arith, cond}
use Rattle.std.specs.Prelude.{not, sum_by}
use Rattle.std.proofs.lemmas.List.Sums.{sum_by-cons, sum_by-append}
use Rattle.life_counts.specs.of_life_model.Script.{eras_started, life_started}
use Rattle.life_counts.specs.Begun.{service_most, begun_most, eras_most, life_most}
use Rattle.life_counts.specs.of_life_model.Lives.{Era, Life}
use Rattle.life_counts.specs.of_master_hand.Spoken.{Asked}
use Rattle.plan_ring.specs.of_run_frames.States.{state_of, states_in, states_of, states_begun}
use Rattle.plan_ring.specs.of_run_frames.Came.{is_packet}
use Rattle.life_counts.specs.of_state_model.Stated.{Service}
use Rattle.life_counts.specs.of_state_model.Accounts.{Started}
use Rattle.life_counts.specs.of_state_model.Promise.{services_in}

eras_one : {M Q R : Type 0} (count : Q → ℕ) (es : List (Era M Q R)) → eras_most count es ≡ begun_most count (eras_started es)
eras_one count [] = refl
eras_one count (e ∷ es) = omega (arith, eras_one count es, sum_by-append (service_most count) (services_in e.account.started) (eras_started es))

pub life_one : {M Q R : Type 0} (count : Q → ℕ) (l : Life M Q R) → life_most count l ≡ begun_most count (life_started l)
life_one count l = omega (arith, eras_one count l.past, sum_by-append (service_most count) (eras_started l.past) (services_in l.era.account.started))

-- those that pass, and those that don't
pub parted : {X : Type 0} (f : X → ℕ) (p : X → Bool) (xs : List X) → sum_by f xs ≡ sum_by f (filter p xs) + sum_by f (filter (λ x. not (p x)) xs)
parted f p [] = refl
parted f p (x ∷ xs) = omega (arith, sum_by-cons f x xs, parted f p xs, one (p x))
  where
    one : (b : Bool) → sum_by f (cond b (x ∷ filter p xs) (filter p xs)) + sum_by f (cond (not b) (x ∷ filter (λ y. not (p y)) xs) (filter (λ y. not (p y)) xs)) ≡ f x + (sum_by f (filter p xs) + sum_by f (filter (λ y. not (p y)) xs))
    one true = omega (arith, sum_by-cons f x (filter p xs))
    one false = omega (arith, sum_by-cons f x (filter (λ y. not (p y)) xs))

-- ---- the state services among them
started_states : {Q : Type 0} (ss : List (Started Q)) → states_in ss ≡ sum_by state_of (services_in ss)
started_states [] = refl
started_states (s ∷ ss) = omega (arith, sum_by-cons state_of s.service (services_in ss), started_states ss)

eras_states : {M Q R : Type 0} (es : List (Era M Q R)) → states_of es ≡ sum_by state_of (eras_started es)
eras_states [] = refl
eras_states (e ∷ es) = omega (arith, started_states e.account.started, eras_states es, sum_by-append state_of (services_in e.account.started) (eras_started es))

pub life_states : {M Q R : Type 0} (l : Life M Q R) → states_begun l ≡ sum_by state_of (life_started l)
life_states l = omega (arith, eras_states l.past, started_states l.era.account.started, sum_by-append state_of (eras_started l.past) (services_in l.era.account.started))

-- a packet is none
packet_none : (q : Service Asked) → is_packet q ≡ true → state_of q ≡ 0
packet_none (Service.Mails q) e = refl
packet_none (Service.State target) e = absurd (let no : false ≡ true = e in cc)

pub packets_none : (qs : List (Service Asked)) → sum_by state_of (filter is_packet qs) ≡ 0
packets_none [] = refl
packets_none (q ∷ qs) = one (is_packet q) refl (packets_none qs)
  where
    one : (b : Bool) → is_packet q ≡ b → sum_by state_of (filter is_packet qs) ≡ 0 → sum_by state_of (cond b (q ∷ filter is_packet qs) (filter is_packet qs)) ≡ 0
    one true e none = omega (arith, sum_by-cons state_of q (filter is_packet qs), none, packet_none q e)
    one false e none = none
