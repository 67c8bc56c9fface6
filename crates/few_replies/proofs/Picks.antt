-- What a master's choice makes of the row in hand: a service that is always answered begins where the one before was heard, and holds its mail.
use Rattle.std.proofs.Common.{◌≡◌, ◌⊎◌, inl, inr, ℕ, ◌+◌, ◌&&◌, Bool, true, false, not, is_none, is_some, Option, Some, None, option_map, List, [], ◌∷◌, ◌++◌, drop, length, refl, ap, sym, ◌∙◌, subst, arith, append-nil, length-append, if◌then◌else◌}
use Rattle.std.specs.Prelude.{⊤, nat_lt}
use Rattle.std.proofs.lemmas.Bool.Decides.{nat_tests}
use Rattle.slave_parts.specs.of_exchange_model.Exchange.{Exchange, IsLawful, plain}
use Rattle.slave_parts.specs.of_exchange_model.Rows.{Row, begun, row_told, left}
use Rattle.slave_parts.specs.of_link_model.Mails.{LinkMail}
use Rattle.slave_parts.specs.of_link_model.Agree.{Agrees}
use Rattle.slave_parts.proofs.of_link_model.Law.{taken_of_held}
use Rattle.slave_parts.specs.of_segment_model.Slaves.{Processor}
use Rattle.slave_parts.specs.of_segment_model.Ends.{Passing}
use Rattle.slave_parts.specs.of_segment_model.Seats.{Side, Seat, link_of, newest, is_none_left, side_begins, side_holds, next_mail, first_left}
use Rattle.slave_parts.proofs.of_segment_model.Posts.{KeptOut, IsFresh}
use Rattle.slave_parts.specs.of_state_model.Stated.{Service}
use Rattle.slave_parts.specs.of_state_model.Accounts.{Account, Duty, Pick, mails_begin, account_begins, is_free, starts}
use Rattle.slave_parts.specs.of_life_model.Lives.{granted, passing_begins}
use Rattle.slave_parts.specs.of_serving_model.Tagged.{no_reply}
use Rattle.few_replies.proofs.Awaits.{StageOf}
use Rattle.few_replies.proofs.Steps.{StageBy, RowStage, NowStage}

not_less : (n : ℕ) → nat_lt n n ≡ false
not_less n = grind (arith, nat_tests)

one_less : (n m : ℕ) → m ≡ n + 1 → nat_lt n m ≡ true
one_less n m e = grind (arith, nat_tests, e)

both_true : (a b : Bool) → a && b ≡ true → (a ≡ true) × (b ≡ true)
both_true true true e = (refl, refl)
both_true true false e = absurd (let bad : false ≡ true = e in cc)
both_true false b e = absurd (let bad : false ≡ true = e in cc)

module _ {V A M Q R : Type 0} (x : Exchange V A M Q R) (law : IsLawful x) (processor : Processor V) (acknowledged : Q → Bool) (more : M → Bool) (passed : Q → Bool) where
  -- before the first row nothing is held
  abbrev pub NewOf : Option (Row M Q R) → Bool → Type 0
  NewOf None fresh = fresh ≡ false
  NewOf (Some r) fresh = ⊤

  -- a new row with its service
  pub record NewRow (k : ℕ) (d e : Side M Q R) (old new : Option Passing) (q : Q) : Type 0 where
    pub side : e ≡ record d { past = d.past ++ newest d.now; now = Some (begun q k) }
    pub none : old ≡ None
    pub idle : d.fresh ≡ false
    pub passing : new ≡ (if passed q then Some Passing.Waiting else None)

  module _ (k kept : ℕ) (d : Side M Q R) (a : Account Q R) (known : KeptOut d.fresh d.halves.out.holding d.halves.out.last kept) (new : NewOf d.now d.fresh) where
    -- A ROW BEGINS, or the side stays
    abbrev pub Begins : Option Passing → Option Duty → Option (Service Q) → Type 0
    Begins passing hand begin =
        let e = side_begins x.speech k d d.now (mails_begin hand begin) in
        let b = account_begins x.speech acknowledged k d a hand begin in
        let after = passing_begins x.speech acknowledged more passed passing a b begin in
        ((e ≡ d) × (after ≡ passing)) ⊎ ((q : Q) × NewRow k d e passing after q)

    same_count : (q : Q) → (if passed q && nat_lt (length a.started) (length a.started) then Some Passing.Waiting else None) ≡ None
    same_count q = ap (λ b. if passed q && b then Some Passing.Waiting else None) (not_less (length a.started)) ∙ go (passed q)
      where
        go : (b : Bool) → (if b && false then Some Passing.Waiting else None) ≡ None
        go true = refl
        go false = refl

    abbrev begun_side : Q → Option (Row M Q R) → Side M Q R
    begun_side q now = record d { past = d.past ++ newest now; now = Some (begun q k) }

    side_is : (q : Q) (now : Option (Row M Q R)) → side_begins x.speech k d now (Some q) ≡ (if x.speech.valid q && is_free x.speech d now then begun_side q now else d)
    side_is q None = go (x.speech.valid q)
      where
        go : (b : Bool) → (if b then record d { now = Some (begun q k) } else d) ≡ (if b && true then begun_side q None else d)
        go true = ap (λ l. record d { past = l; now = Some (begun q k) }) (sym (append-nil d.past))
        go false = refl
    side_is q (Some r) = refl

    idle : (now : Option (Row M Q R)) → d.now ≡ now → is_free x.speech d now ≡ true → d.fresh ≡ false
    idle None e free = subst (λ n. NewOf n d.fresh) e new
    idle (Some r) e free = go (x.speech.handed r.service && is_none r.answer) (both_true (is_none_left (left x.speech r)) _ free).1
      where
        fresh_holds : (fresh : Bool) (holding : Option (LinkMail M)) (last : ℕ) → is_none holding ≡ true → KeptOut fresh holding last kept → fresh ≡ false
        fresh_holds false holding last f z = refl
        fresh_holds true holding last f z = let w : IsFresh holding last kept = z in absurd (let bad : false ≡ true = sym (ap is_none w.holds) ∙ f in cc)

        not_fresh : (b : Bool) → not b ≡ true → b ≡ false
        not_fresh false f = refl
        not_fresh true f = absurd (let bad : false ≡ true = f in cc)

        go : (h : Bool) → (if h then is_none d.halves.out.holding else is_some r.answer && not d.fresh) ≡ true → d.fresh ≡ false
        go true f = fresh_holds d.fresh d.halves.out.holding d.halves.out.last f known
        go false f = not_fresh d.fresh (both_true (is_some r.answer) (not d.fresh) f).1

    begins_mails : (q : Q) → Begins None None (Some (Service.Mails q))
    begins_mails q = go (x.speech.valid q && is_free x.speech d d.now) refl
      where
        longer : length (starts a (Service.Mails q) k) ≡ length a.started + 1
        longer = length-append a.started (record { service = Service.Mails q; frame = k } ∷ [])

        counted : (b : Bool) → (if b && nat_lt (length a.started) (length (starts a (Service.Mails q) k)) then Some Passing.Waiting else None) ≡ (if b then Some Passing.Waiting else None)
        counted true = ap (λ c. if c then Some Passing.Waiting else None) (one_less (length a.started) (length (starts a (Service.Mails q) k)) longer)
        counted false = refl

        go : (c : Bool) → x.speech.valid q && is_free x.speech d d.now ≡ c → Begins None None (Some (Service.Mails q))
        go true e = inr (
          q,
          record {
            side = side_is q d.now ∙ ap (λ b. if b then begun_side q d.now else d) e;
            none = refl;
            idle = idle d.now refl (both_true (x.speech.valid q) (is_free x.speech d d.now) e).1;
            passing = ap (λ b. if passed q && nat_lt (length a.started) (length (if b then record a { started = starts a (Service.Mails q) k } else a).started) then Some Passing.Waiting else None) e ∙ counted (passed q);
          },
        )
        go false e = inl (
          side_is q d.now ∙ ap (λ b. if b then begun_side q d.now else d) e,
          ap (λ b. if passed q && nat_lt (length a.started) (length (if b then record a { started = starts a (Service.Mails q) k } else a).started) then Some Passing.Waiting else None) e ∙ same_count q,
        )

    begins_none : (hand : Option Duty) (begin : Option (Service Q)) → Begins None hand begin
    begins_none hand None = inl (refl, refl)
    begins_none None (Some (Service.State target)) = inl (refl, refl)
    begins_none (Some duty) (Some (Service.State target)) = inl (refl, refl)
    begins_none (Some duty) (Some (Service.Mails q)) = inl (refl, same_count q)
    begins_none None (Some (Service.Mails q)) = begins_mails q

    pub begins : (passing : Option Passing) (pick : Pick Q) → Begins passing a.hand (granted passing pick).begin
    begins None pick = begins_none a.hand pick.begin
    begins (Some p) pick = inl (refl, refl)

  -- THE NEXT MAIL IS HELD
  module _ (s : Seat V M Q R) (agrees : Agrees (link_of s)) (e : Side M Q R) (passing : Option Passing) where
    abbrev pub beside : List M → Seat V M Q R
    beside ms = record s { side = side_holds e ms; held = s.held ++ ms }

    unheld : NowStage x law processor passed passing e.now (record s { side = e }) → NowStage x law processor passed passing e.now (beside [])
    unheld w = subst (λ l. NowStage x law processor passed passing e.now (record s { side = e; held = l })) (sym (append-nil s.held)) w

    one_held : (r : Row M Q R) (m : M) (ms : List M) → left x.speech r ≡ m ∷ ms → RowStage x law processor passed passing r (record s { side = e }) → RowStage x law processor passed passing (row_told m r) (beside (m ∷ []))
    one_held r m ms is w a = go passing (w a)
      where
        planned : drop (length r.told) (a.mail ∷ []) ≡ m ∷ ms
        planned = ap (drop (length r.told)) (sym (a.planned (plain x.speech.emission r.heard))) ∙ is

        none_left : r.told ≡ a.mail ∷ [] → ⊥
        none_left f = let bad : [] ≡ m ∷ ms = ap (λ l. drop (length l) (a.mail ∷ [])) (sym f) ∙ planned in cc

        held : r.told ≡ [] → StageOf x Passing.Waiting a.mail (r.told ++ m ∷ []) (beside (m ∷ []))
        held f =
            let first : a.mail ∷ [] ≡ m ∷ ms = ap (λ l. drop (length l) (a.mail ∷ [])) (sym f) ∙ planned in
            let at : m ≡ a.mail = cc in
            let o = taken_of_held (link_of s) agrees in
            inr (ap (λ l. l ++ m ∷ []) f ∙ ap (λ c. c ∷ []) at, inl (o.0, ap (λ l. l ++ m ∷ []) o.1 ∙ ap (λ c. (s.taken ++ o.0) ++ c ∷ []) at))

        on : (p : Passing) → StageOf x p a.mail r.told (record s { side = e }) → StageOf x p a.mail (r.told ++ m ∷ []) (beside (m ∷ []))
        on Passing.Waiting (inl z) = held z.0
        on Passing.Waiting (inr z) = absurd (none_left z.0)
        on Passing.Sent z = absurd (none_left z.0)
        on Passing.Boxed z = absurd (none_left z.0)
        on Passing.Served z = absurd (none_left z.0)
        on Passing.Answered z = z

        go : (passing : Option Passing) → (no_reply x.speech.emission r.heard ≡ false) ⊎ StageBy x law processor passed passing a.mail r.told (record s { side = e }) →
            (no_reply x.speech.emission r.heard ≡ false) ⊎ StageBy x law processor passed passing a.mail (r.told ++ m ∷ []) (beside (m ∷ []))
        go passing (inl h) = inl h
        go None (inr z) = inr z
        go (Some p) (inr z) = inr (on p z)

    -- what is kept of the side beside the row
    pub record Holds (ms : List M) : Type 0 where
      pub stage : NowStage x law processor passed passing (side_holds e ms).now (beside ms)
      pub past : (side_holds e ms).past ≡ e.past
      pub inn : (side_holds e ms).halves.inn ≡ e.halves.inn
      pub new : NewOf (side_holds e ms).now (side_holds e ms).fresh

    pub holds : NowStage x law processor passed passing e.now (record s { side = e }) → NewOf e.now e.fresh → (hold : Bool) → Holds (next_mail x.speech e.now e.halves.out.holding hold)
    holds w new hold = go e.now refl e.halves.out.holding hold
      where
        none : Holds []
        none = record { stage = unheld w; past = refl; inn = refl; new = new }

        first : (r : Row M Q R) → e.now ≡ Some r → (ms : List M) → left x.speech r ≡ ms → Holds (first_left ms)
        first r at [] is = none
        first r at (m ∷ ms) is = record {
          stage = subst (λ now. NowStage x law processor passed passing (option_map (λ r. row_told m r) now) (beside (m ∷ []))) (sym at) (one_held r m ms is (subst (λ now. NowStage x law processor passed passing now (record s { side = e })) at w));
          past = refl;
          inn = refl;
          new = subst (λ now. NewOf (option_map (λ r. row_told m r) now) true) (sym at) tt;
        }

        go : (now : Option (Row M Q R)) → e.now ≡ now → (holding : Option (LinkMail M)) (hold : Bool) → Holds (next_mail x.speech now holding hold)
        go now at holding false = none
        go None at holding true = none
        go (Some r) at (Some m) true = none
        go (Some r) at None true = first r at (left x.speech r) refl
