-- The adder with an AL state owes the laws of exchange and those of an AL state, and a run of it with its state services, computed.
use Rattle.std.proofs.Common.{◌≡◌, ◌≢◌, ◌⊎◌, inl, inr, ℕ, zero, suc, ◌≤◌, Bool, true, false, List, [], ◌∷◌, ◌++◌, Option, None, Some, refl, sym, ap, ◌∙◌, subst, arith, le_refl, append-nil}
use Rattle.segment_model.specs.of_exchange_model.Exchange.{IsLawful, Before, Behind, given, plain, emitted}
use Rattle.segment_model.specs.of_exchange_model.Dialogue.{Decides, rest_at}
use Rattle.segment_model.specs.of_exchange_model.Toy.{Mail, first, second, posted, held, total, refused, Service, sum, post, Adder, finish, emission, decide, handed}
use Rattle.segment_model.specs.of_exchange_model.Toy
use Rattle.segment_model.proofs.of_exchange_model.Turns.{follows, all_said}
use Rattle.state_model.specs.Stated.{IsStated}
use Rattle.state_model.specs.Toys.{Desk, adds, refuse, serve_in, serve, ends, exec_in, Sheet, desk, desk_states, steps, stated_desk}
use Rattle.state_model.proofs.StatedLaw.{stated_law}

-- ITS SERVICES

-- what each service does, in each AL state
whole : (d : Desk) (q : Service) → Behind desk d q (desk.full d q)
whole d q = by d.state d.adder q
  where
    by : (state : ℕ) (v : Adder) (q : Service) → Behind desk (record { adder = v; state = state }) q (desk.full (record { adder = v; state = state }) q)
    by (suc zero) v (sum n) = record { app = refl; handled = refl; emitted = ([], refl) }
    by (suc zero) v (post n) = record { app = refl; handled = refl; emitted = ([], refl) }
    by state v (sum n) = record { app = refl; handled = refl; emitted = ([], refl) }
    by state v (post n) = record { app = refl; handled = refl; emitted = ([], refl) }

all_emitted : (d : Desk) (q : Service) → emitted emission (given serve d (desk.full d q)) ≡ desk.emits (desk.app d) q
all_emitted d q = by d.state d.adder q
  where
    by : (state : ℕ) (v : Adder) (q : Service) →
        emitted emission (given serve (record { adder = v; state = state }) (desk.full (record { adder = v; state = state }) q)) ≡ desk.emits (record { value = v.value; state = state }) q
    by (suc zero) v (sum n) = refl
    by (suc zero) v (post n) = refl
    by state v (sum n) = refl
    by state v (post n) = refl

replied : (d : Desk) (q : Service) → handed q ≡ false → ends q (plain emission (given serve d (desk.full d q))) ≡ Some (desk.reply (desk.app d) q)
replied d q answers = by d.state d.adder q answers
  where
    by : (state : ℕ) (v : Adder) (q : Service) → handed q ≡ false →
        ends q (plain emission (given serve (record { adder = v; state = state }) (desk.full (record { adder = v; state = state }) q))) ≡ Some (desk.reply (record { value = v.value; state = state }) q)
    by state v (post n) answers = absurd (cc)
    by (suc zero) v (sum n) answers = refl
    by state v (sum n) answers = refl

silent : (d : Desk) (q : Service) → handed q ≡ true → plain emission (given serve d (desk.full d q)) ≡ []
silent d q posts = by d.state d.adder q posts
  where
    by : (state : ℕ) (v : Adder) (q : Service) → handed q ≡ true → plain emission (given serve (record { adder = v; state = state }) (desk.full (record { adder = v; state = state }) q)) ≡ []
    by state v (sum n) posts = absurd (cc)
    by (suc zero) v (post n) posts = refl
    by state v (post n) posts = refl

-- before its last mail nothing of a service is done
begun : (d : Desk) (n : ℕ) → adds d.state ≡ true → Before desk d (first n ∷ [])
begun d n works = by d.state d.adder works
  where
    by : (state : ℕ) (v : Adder) → adds state ≡ true → Before desk (record { adder = v; state = state }) (first n ∷ [])
    by zero v works = absurd (cc)
    by (suc zero) v works = record { app = refl; handled = refl; emitted = refl }
    by (suc (suc state)) v works = absurd (cc)

-- the mails of a service: two of a sum in the state that adds, else one
data Mails (d : Desk) (q : Service) : Type 0 where
  Two : (n : ℕ) → q ≡ sum n → adds d.state ≡ true → desk.full d q ≡ first n ∷ second ∷ [] → Mails d q
  One : (m : Mail) → desk.full d q ≡ m ∷ [] → Mails d q

mails_of : (d : Desk) (q : Service) → Mails d q
mails_of d q = by d.state d.adder q
  where
    by : (state : ℕ) (v : Adder) (q : Service) → Mails (record { adder = v; state = state }) q
    by (suc zero) v (sum n) = Two n refl refl refl
    by (suc zero) v (post n) = One (posted n) refl
    by state v (sum n) = One (first n) refl
    by state v (post n) = One (posted n) refl

part : (d : Desk) (q : Service) (p r : List Mail) → desk.full d q ≡ p ++ r → Before desk d p ⊎ Behind desk d q p
part d q [] r e = inl (record { app = refl; handled = refl; emitted = refl })
part d q (m ∷ p) r e = by (mails_of d q) p e
  where
    by : Mails d q → (p : List Mail) → desk.full d q ≡ m ∷ p ++ r → Before desk d (m ∷ p) ⊎ Behind desk d q (m ∷ p)
    by (One k all) [] e = inr (let same : desk.full d q ≡ m ∷ [] = cc in subst (Behind desk d q) same (whole d q))
    by (One k all) (l ∷ p) e = absurd (cc)
    by (Two n is works all) [] e = inl (let same : first n ≡ m = cc in subst (λ k. Before desk d (k ∷ [])) same (begun d n works))
    by (Two n is works all) (k ∷ []) e = inr (let same : desk.full d q ≡ m ∷ k ∷ [] = cc in subst (Behind desk d q) same (whole d q))
    by (Two n is works all) (k ∷ l ∷ p) e = absurd (cc)

none : (q : Service) → ends q [] ≡ None
none (sum n) = refl
none (post n) = refl

-- behind the first mail of a sum that is added a reply is missing
half_heard : (d : Desk) (n : ℕ) → adds d.state ≡ true → ends (sum n) (plain emission (given serve d (first n ∷ []))) ≡ None
half_heard d n works = by d.state d.adder works
  where
    by : (state : ℕ) (v : Adder) → adds state ≡ true → ends (sum n) (plain emission (given serve (record { adder = v; state = state }) (first n ∷ []))) ≡ None
    by zero v works = absurd (cc)
    by (suc zero) v works = refl
    by (suc (suc state)) v works = absurd (cc)

-- with all replies all mails were taken
last : (d : Desk) (q : Service) → handed q ≡ false → (p r : List Mail) → desk.full d q ≡ p ++ r →
    plain emission (given serve d p) ≡ plain emission (given serve d (desk.full d q)) → r ≡ []
last d q answers p r e same = by (mails_of d q) p e (ap (ends q) same ∙ replied d q answers)
  where
    by : Mails d q → (p : List Mail) → desk.full d q ≡ p ++ r → ends q (plain emission (given serve d p)) ≡ Some (desk.reply (desk.app d) q) → r ≡ []
    by own [] e found = absurd (let no = none q in cc)
    by (One m all) (k ∷ []) e found = cc
    by (One m all) (k ∷ l ∷ p) e found = absurd (cc)
    by (Two n is works all) (k ∷ []) e found = absurd (
        let same : first n ≡ k = cc in
        let no : ends q (plain emission (given serve d (k ∷ []))) ≡ None =
        ap (λ q. ends q (plain emission (given serve d (k ∷ [])))) is ∙ ap (λ m. ends (sum n) (plain emission (given serve d (m ∷ [])))) (sym same) ∙ half_heard d n works in
        cc)
    by (Two n is works all) (k ∷ l ∷ []) e found = cc
    by (Two n is works all) (k ∷ l ∷ m ∷ p) e found = absurd (cc)

counted : (d : Desk) (q : Service) → handed q ≡ false → (p r : List Mail) → desk.full d q ≡ p ++ r →
    plain emission (given serve d p) ≡ plain emission (given serve d (desk.full d q)) → Behind desk d q p
counted d q answers p r e same =
    let all : desk.full d q ≡ p = e ∙ ap (λ l. p ++ l) (last d q answers p r e same) ∙ append-nil p in
    subst (Behind desk d q) all (whole d q)

-- ITS CLIENT

first_rest : (v : Adder) (n : ℕ) (works : Bool) → rest_at decide (first n) [] (plain emission (serve_in works v (first n)).1) ≡ []
first_rest v n true = refl
first_rest v n false = refl

finish_rest : (v : Adder) (half : Option ℕ) → rest_at decide second [] (plain emission (finish v half).1) ≡ []
finish_rest v None = refl
finish_rest v (Some n) = refl

second_rest : (v : Adder) (works : Bool) → rest_at decide second [] (plain emission (serve_in works v second).1) ≡ []
second_rest v true = finish_rest v v.half
second_rest v false = refl

post_rest : (v : Adder) (n : ℕ) (works : Bool) → rest_at decide (posted n) [] (plain emission (serve_in works v (posted n)).1) ≡ []
post_rest v n true = refl
post_rest v n false = refl

decides : (q : Service) → Decides serve emission decide (Toy.mails q)
decides (sum n) = ((λ d. first_rest d.adder n (adds d.state)), ((λ d. second_rest d.adder (adds d.state)), tt))
decides (post n) = ((λ d. post_rest d.adder n (adds d.state)), tt)

ended : (q : Service) (hs : List Mail) (h : Mail) (more : List Mail) (r : Option ℕ) → ends q hs ≡ Some r → ends q (hs ++ h ∷ more) ≡ None
ended (sum n) (held ∷ total value ∷ []) h more r e = refl
ended (sum n) (refused ∷ []) h more r e = refl
ended _ _ h more r e = absurd (cc)

unanswered : (q : Service) (hs : List Mail) → handed q ≡ true → ends q hs ≡ None
unanswered (sum n) hs posts = absurd (cc)
unanswered (post n) hs posts = refl

some : (d : Desk) (q : Service) → handed q ≡ true → desk.full d q ≢ []
some d (sum n) posts = absurd (cc)
some d (post n) posts = λ none. absurd (cc)

finish_grows : (v : Adder) (half : Option ℕ) → v.handled ≤ (finish v half).0.handled
finish_grows v None = le_refl v.handled
finish_grows v (Some n) = omega arith

adder_grows : (v : Adder) (m : Mail) → v.handled ≤ (Toy.serve v m).0.handled
adder_grows v (first n) = le_refl v.handled
adder_grows v second = finish_grows v v.half
adder_grows v (posted n) = omega arith
adder_grows v m = le_refl v.handled

refuse_grows : (v : Adder) (m : Mail) → v.handled ≤ (refuse v m).0.handled
refuse_grows v (first n) = omega arith
refuse_grows v (posted n) = omega arith
refuse_grows v m = le_refl v.handled

grows_in : (works : Bool) (v : Adder) (m : Mail) → v.handled ≤ (serve_in works v m).0.handled
grows_in true v m = adder_grows v m
grows_in false v m = refuse_grows v m

-- BOTH

pub desk_law : IsLawful desk
desk_law = record {
  ready = λ d q ready valid. refl;
  whole = λ d q ready valid. whole d q;
  all_emitted = λ d q ready valid. all_emitted d q;
  replied = λ d q ready valid. replied d q;
  silent = λ d q ready valid. silent d q;
  part = λ d q ready valid. part d q;
  counted = λ d q ready valid. counted d q;
  none = none;
  ended = ended;
  follows = λ d q ready valid hs more. follows serve emission decide 2 d (Toy.mails q) hs more (decides q);
  all_planned = λ d q ready valid. all_said serve emission decide 2 d (Toy.mails q) (decides q);
  unanswered = unanswered;
  some = λ d q ready valid. some d q;
  grows = λ d m. grows_in (adds d.state) d.adder m;
}

exec_keeps : (b : Bool) (a : Sheet) (q : Service) → (exec_in b a q).state ≡ a.state
exec_keeps true a q = refl
exec_keeps false a q = refl

pub desk_is_stated : IsStated desk desk_states
desk_is_stated = record {
  ready = λ state d. refl;
  handled = λ state d. refl;
  app = λ state d. refl;
  is = λ state a. refl;
  same = λ d. refl;
  stays = λ d m. refl;
  keeps = λ a q. exec_keeps (adds a.state) a q;
  last = λ d q ready valid answers quiet. last d q answers;
}

pub both_law : IsLawful stated_desk
both_law = stated_law desk desk_states steps desk_is_stated desk_law
