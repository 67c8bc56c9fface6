-- Where nothing is left, as another sees it.
use Rattle.std.proofs.Common.{◌≡◌, ℕ, ◌&&◌, Bool, true, false, not, Option, Some, None, option_map, List, [], ◌∷◌, ◌++◌, map, refl, sym, ap, ◌∙◌, subst, inl, inr, if◌then◌else◌}
use Rattle.std.specs.Prelude.{is_none, is_some}
use Rattle.idle_slaves.specs.of_slave_model.Moments.{HasNothing, IsFree, IsMailsLast, WasHeard}
use Rattle.idle_slaves.proofs.of_slave_model.Laws.{heard, nothing}
use Rattle.idle_slaves.specs.of_exchange_model.Exchange.{Exchange, Speech, IsLawful}
use Rattle.idle_slaves.specs.of_exchange_model.Rows.{Row, ends_unheard, left}
use Rattle.idle_slaves.specs.of_life_model.Eras.{EraIs}
use Rattle.idle_slaves.specs.of_life_model.Lives.{Era, Spot}
use Rattle.idle_slaves.specs.of_link_model.Mails.{LinkMail}
use Rattle.idle_slaves.specs.of_slave_model.Waits.{NeverWaits}
use Rattle.served_rings.specs.of_few_replies.Erased.{OfRow, PlanOne, row_seen, side_seen}
use Rattle.served_rings.specs.of_few_replies.Heard.{EraPasses, HeardBy, IsPassedBy}
use Rattle.seen_slaves.proofs.Left.{left_as}
use Rattle.served_rings.proofs.SeenSettled.{settled_back}
use Rattle.seen_slaves.specs.Spent.{IsEndTold, NothingSeen, SpeakOne}
use Rattle.idle_slaves.specs.of_segment_model.Ends.{Passing}
use Rattle.idle_slaves.specs.of_segment_model.Record.{Frame}
use Rattle.idle_slaves.specs.of_segment_model.Seats.{Side, is_none_left, is_over}
use Rattle.idle_slaves.specs.of_segment_model.Slaves.{Processor, Registers, Slave}
use Rattle.served_rings.specs.of_serving_model.Erasing.{box_as}
use Rattle.seen_slaves.specs.Last.{LastPasses}
use Rattle.idle_slaves.specs.of_state_model.Stated.{Service, Stated, IsStated}
use Rattle.idle_slaves.specs.of_state_model.States.{Table}
use Rattle.served_rings.specs.of_life_counts.Seen.{era_seen, service_seen, started_seen}
use Rattle.idle_slaves.specs.of_state_model.Accounts.{Started, is_acknowledged, is_free}

map_none : {X Y : Type 0} (f : X → Y) (xs : List X) → map f xs ≡ [] → xs ≡ []
map_none f [] e = refl
map_none f (x ∷ xs) e = absurd (let no : f x ∷ map f xs ≡ [] = e in cc)

pub of_row : {N Q R : Type 0} (K : Row N Q R → Type 0) (now : Option (Row N Q R)) (r : Row N Q R) → OfRow K now → now ≡ Some r → K r
of_row K now r k e = subst (λ z. OfRow K z) e k

some_same : {X Y : Type 0} (f : X → Y) (a : Option X) → is_some (option_map f a) ≡ is_some a
some_same f None = refl
some_same f (Some x) = refl

either_true : (b : Bool) → (if b then true else true) ≡ true
either_true true = refl
either_true false = refl

and_right : (a b : Bool) → (a && b) ≡ true → b ≡ true
and_right true b e = e
and_right false b e = absurd (let no : false ≡ true = e in cc)

-- ---- what came into hand last is by mails, for both
by_mails : {P Q : Type 0} (g : P → Q) (s : Started P) (rest : Service P) → s.service ≡ rest → (q : Q) → service_seen g rest ≡ Service.Mails q → IsMailsLast (s ∷ [])
by_mails g s (Service.Mails q') is q e = record { front = []; service = q'; frame = s.frame; is = (λ i. record { service = is i; frame = s.frame } ∷ []) }
by_mails g s (Service.State target) is q e = absurd (let no : Service.State target ≡ Service.Mails q = e in cc)

module _ {N M P Q S R : Type 0} (f : N → M) (g : P → Q) (h : S → R) where
  last_seen : (ss : List (Started P)) (front : List (Started Q)) (q : Q) (frame : ℕ) → map (λ (s : Started P). started_seen f g h s) ss ≡ front ++ record { service = Service.Mails q; frame = frame } ∷ [] → IsMailsLast ss
  last_seen [] [] q frame e = absurd (let no : [] ≡ record { service = Service.Mails q; frame = frame } ∷ [] = e in cc)
  last_seen [] (t ∷ front) q frame e = absurd (let no : [] ≡ t ∷ (front ++ record { service = Service.Mails q; frame = frame } ∷ []) = e in cc)
  last_seen (s ∷ []) [] q frame e =
      let head : started_seen f g h s ≡ record { service = Service.Mails q; frame = frame } = (let both : started_seen f g h s ∷ [] ≡ record { service = Service.Mails q; frame = frame } ∷ [] = e in cc) in
      by_mails g s s.service refl q (ap (λ (t : Started Q). t.service) head)
  last_seen (s ∷ (s' ∷ ss)) [] q frame e =
      absurd (let no : started_seen f g h s ∷ (started_seen f g h s' ∷ map (λ (t : Started P). started_seen f g h t) ss) ≡ record { service = Service.Mails q; frame = frame } ∷ [] = e in cc)
  last_seen (s ∷ ss) (t ∷ front) q frame e =
      let tail : map (λ (a : Started P). started_seen f g h a) ss ≡ front ++ record { service = Service.Mails q; frame = frame } ∷ [] =
      (let both : started_seen f g h s ∷ map (λ (a : Started P). started_seen f g h a) ss ≡ t ∷ (front ++ record { service = Service.Mails q; frame = frame } ∷ []) = e in cc) in
      let k = last_seen ss front q frame tail in
      record { front = s ∷ k.front; service = k.service; frame = k.frame; is = ap (λ l. s ∷ l) k.is }

  pub lasts_seen : (e : Era N P S) → LastPasses (era_seen f g h e) → LastPasses e
  lasts_seen e k p is = let m = k p is in last_seen e.account.started m.front m.service m.frame m.is

  module _ (z : Speech N P S) (y : Speech M Q R) (acknowledged : Q → Bool) where
    -- ---- a row that is over is over for the other, with no mail held
    over_by : (r : Row N P S) (holding : Option (LinkMail N)) (fresh : Bool) → holding ≡ None → left y (row_seen f g h r) ≡ [] → is_over z holding fresh r ≡ true → (z.handed r.service ≡ true → y.handed (g r.service) ≡ true) →
        (b c : Bool) → y.handed (g r.service) ≡ b → z.handed r.service ≡ c → is_over y (box_as f holding) fresh (row_seen f g h r) ≡ true
    over_by r holding fresh held none over hands b c is was =
        (λ i. is_none_left (none i) && (if is i && none_same r.answer i then is_none (box_as f (held i)) else some_same {Y = R × ℕ} (λ (a : S × ℕ). (h a.0, a.1)) r.answer i && not fresh))
        ∙ by b c is was r.answer (sym (ap (λ (d : Bool). if d && is_none r.answer then is_none holding else is_some r.answer && not fresh) was)
        ∙ and_right (is_none_left (left z r)) (if z.handed r.service && is_none r.answer then is_none holding else is_some r.answer && not fresh) over)
      where
        none_same : (a : Option (S × ℕ)) → is_none {T = R × ℕ} (option_map (λ (k : S × ℕ). (h k.0, k.1)) a) ≡ is_none a
        none_same None = refl
        none_same (Some k) = refl

        by : (b c : Bool) → y.handed (g r.service) ≡ b → z.handed r.service ≡ c → (a : Option (S × ℕ)) → (if c && is_none a then is_none holding else is_some a && not fresh) ≡ true → (if b && is_none a then true else is_some a && not fresh) ≡ true
        by true c is was None m = refl
        by true true is was (Some a) m = m
        by true false is was (Some a) m = m
        by false true is was a m = absurd (let no : true ≡ false = sym (hands was) ∙ is in cc)
        by false false is was a m = m

    free_by : (d : Side N P S) (now : Option (Row N P S)) → d.halves.out.holding ≡ None → OfRow (λ (r : Row N P S). z.handed r.service ≡ true → y.handed (g r.service) ≡ true) now → OfRow (λ (r : Row N P S). left y (row_seen f g h r) ≡ []) now →
        is_free z d now ≡ true → is_free y (side_seen f g h d) (option_map (λ (r : Row N P S). row_seen f g h r) now) ≡ true
    free_by d None held hands none free = refl
    free_by d (Some r) held hands none free = over_by r d.halves.out.holding d.fresh held none free hands (y.handed (g r.service)) (z.handed r.service) refl refl

    done_by : (d : Side N P S) (now : Option (Row N P S)) → d.halves.out.holding ≡ None → is_acknowledged y acknowledged (side_seen f g h d) (option_map (λ (r : Row N P S). row_seen f g h r) now) ≡ true
    done_by d None held = refl
    done_by d (Some r) held = (λ i. if ends_unheard y acknowledged (row_seen f g h r) then is_none (box_as f (held i)) else true) ∙ either_true (ends_unheard y acknowledged (row_seen f g h r))

    -- nothing is left of its row
    none_of : (d : Side N P S) (now : Option (Row N P S)) → d.now ≡ now → ((r : Row M Q R) → option_map (λ (t : Row N P S). row_seen f g h t) d.now ≡ Some r → left y r ≡ []) → OfRow (λ (r : Row N P S). left y (row_seen f g h r) ≡ []) now
    none_of d None is none = tt
    none_of d (Some r) is none = none (row_seen f g h r) (ap (λ (o : Option (Row N P S)). option_map (λ (t : Row N P S). row_seen f g h t) o) is)

    -- so nothing is left as it is
    pub has_nothing : {V W : Type 0} (server : V → W) (e : Era N P S) (n : Slave V N) → SpeakOne f g h z y e → NothingSeen f g h z y server e n → HasNothing z e n
    has_nothing server e n same k = record {
      settled = settled_back f server n k.settled;
      held = k.held;
      clear = k.clear;
      hand = k.hand;
      left = λ r is. map_none f (left z r) (sym (left_as f g h z y r (of_row (λ (t : Row N P S). PlanOne f g h z y t.service t.heard) e.side.now r same.plans is)) ∙ k.left (row_seen f g h r) (ap (λ (o : Option (Row N P S)). option_map (λ (t : Row N P S). row_seen f g h t) o) is));
      answered = k.answered;
    }

    pub free_as : {V W : Type 0} (server : V → W) (e : Era N P S) (n : Slave V N) → SpeakOne f g h z y e → NothingSeen f g h z y server e n → is_free z e.side e.side.now ≡ true → IsFree y acknowledged (side_seen f g h e.side)
    free_as server e n same k free = record {
      free = free_by e.side e.side.now k.held same.hands (none_of e.side e.side.now refl k.left) free;
      done = done_by e.side e.side.now k.held;
    }

  -- ---- OF AN EPOCH
  module _ {V A W : Type 0} (x : Exchange V A N P S) (s : Stated V A P) (y : Speech M Q R) (server : V → W) (processor : Processor V) (table : ℕ → Table) (spot : Spot) (e : Era N P S) (opened last : ℕ) (fs : List (Frame N)) (v : V) (r : Registers) (n : Slave V N)
      (law : IsLawful x) (stated : IsStated x s) (never : NeverWaits x) (is : EraIs x s processor table spot e opened last fs v r n) (same : SpeakOne f g h x.speech y e) (k : NothingSeen f g h x.speech y server e n) where
    pub frees : (acknowledged : Q → Bool) → IsFree y acknowledged (side_seen f g h e.side)
    frees acknowledged =
        free_as x.speech y acknowledged server e n same k (nothing x s processor table spot e opened last fs v r n law stated is never (has_nothing x.speech y acknowledged server e n same k)).free

    -- by the row as the other has it, with all its replies heard
    unawaited_by : (more : M → Bool) (passed : Q → Bool) → IsMailsLast e.account.started → ((t : Row N P S) → e.side.now ≡ Some t → passed (g t.service) ≡ true → WasHeard x t → IsEndTold f y more t) →
        (now : Option (Row N P S)) → e.side.now ≡ now → IsPassedBy y more passed Passing.Answered (option_map (λ (t : Row N P S). row_seen f g h t) now) → ⊥
    unawaited_by more passed lasts tells None now p = (let no : None ≡ Some p.row = p.is in cc)
    unawaited_by more passed lasts tells (Some t) now p =
        let row : row_seen f g h t ≡ p.row = (let both : Some (row_seen f g h t) ≡ Some p.row = p.is in cc) in
        let said : HeardBy y.emission more Passing.Answered (map f t.heard) = subst (λ (k : Row M Q R). HeardBy y.emission more Passing.Answered k.heard) (sym row) p.heard in
        elim (tells t now (ap (λ (k : Row M Q R). passed k.service) row ∙ p.passes) (heard x s processor table spot e opened last fs v r n law stated is never (has_nothing x.speech y (λ q. true) server e n same k) lasts t now)) [
          | inl none ↦ said.0 none
          | inr told ↦ (let no : true ≡ false = sym told ∙ said.1 in cc)
        ]

    pub unawaited : (more : M → Bool) (passed : Q → Bool) → EraPasses y more passed (era_seen f g h e) → LastPasses (era_seen f g h e) → ((t : Row N P S) → e.side.now ≡ Some t → passed (g t.service) ≡ true → WasHeard x t → IsEndTold f y more t) → e.passing ≡ Some Passing.Answered → ⊥
    unawaited more passed passes lasts tells answered = unawaited_by more passed (lasts_seen e lasts Passing.Answered answered) tells e.side.now refl (passes Passing.Answered answered)
