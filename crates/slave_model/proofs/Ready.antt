-- Whether a service may begin behind a visit that brought nothing.
use Rattle.std.proofs.Common.{◌≡◌, ◌≢◌, ℕ, ◌&&◌, ◌||◌, Bool, true, false, not, is_none, is_some, Option, Some, None, option_map, List, [], ◌∷◌, ◌++◌, length, length-append, refl, sym, ap, ◌∙◌, arith, append-nil, if◌then◌else◌}
use Rattle.protocol_models.specs.of_exchange_model.Exchange.{Speech, outnumbers, plain}
use Rattle.protocol_models.specs.of_exchange_model.Rows.{Row, answer_after, begun, ends_unheard, left, row_heard, row_told}
use Rattle.life_model.specs.Lives.{Era}
use Rattle.link_mails.specs.of_link_model.Mails.{LinkMail}
use Rattle.life_model.specs.of_segment_model.Seats.{Side, is_over, is_none_left, side_back, side_begins, side_holds, side_next, next_mail}
use Rattle.life_model.specs.of_segment_model.Slaves.{Datagram}
use Rattle.life_model.specs.of_state_model.Stated.{Service}
use Rattle.life_model.specs.of_state_model.Accounts.{Account, Duty, account_begins, is_free, is_acknowledged, mails_begin, starts, state_begins}
use Rattle.slave_model.specs.Moments.{IsFree, HeldStill, NowAnswered}

and_parts : (a b : Bool) → (a && b) ≡ true → (a ≡ true) × (b ≡ true)
and_parts true b e = (refl, e)
and_parts false b e = absurd (cc)

is_left : {X : Type 0} (ms : List X) → is_none_left ms ≡ true → ms ≡ []
is_left [] e = refl
is_left (m ∷ ms) e = absurd (cc)

some_of : {X : Type 0} (o : Option X) → is_some o ≡ true → (a : X) × (o ≡ Some a)
some_of (Some a) e = (a, refl)
some_of None e = absurd (cc)

not_held : {B X : Type 0} (holding : Option B) → holding ≢ None → is_none holding ≡ true → X
not_held None f e = absurd (f refl)
not_held (Some m) f e = absurd (cc)

module _ {M Q R : Type 0} (x : Speech M Q R) (acknowledged : Q → Bool) where
  -- A ROW THAT IS OVER with a mail held: it has its answer, and no acknowledgement
  pub record Held (fresh : Bool) (r : Row M Q R) : Type 0 where
    pub left : left x r ≡ []
    pub answer : R × ℕ
    pub is : r.answer ≡ Some answer
    pub quiet : ends_unheard x acknowledged r ≡ false

  held_over : (holding : Option (LinkMail M)) (fresh : Bool) (r : Row M Q R) → holding ≢ None → is_over x holding fresh r ≡ true → (if ends_unheard x acknowledged r then is_none holding else true) ≡ true → Held fresh r
  held_over holding fresh r some over done =
      let parts = and_parts (is_none_left (left x r)) (if x.handed r.service && is_none r.answer then is_none holding else is_some r.answer && not fresh) over in
      go (x.handed r.service && is_none r.answer) parts.1 (ends_unheard x acknowledged r) refl done (is_left (left x r) parts.0)
    where
      go : (b : Bool) → (if b then is_none holding else is_some r.answer && not fresh) ≡ true → (c : Bool) → ends_unheard x acknowledged r ≡ c → (if c then is_none holding else true) ≡ true → left x r ≡ [] → Held fresh r
      go true f c g k none = not_held holding some f
      go false f true g k none = not_held holding some k
      go false f false g k none = let a = some_of r.answer (and_parts (is_some r.answer) (not fresh) f).0 in record { left = none; answer = a.0; is = a.1; quiet = g }

  -- a row behind a visit that brought nothing
  heard_none : (frame : ℕ) (r : Row M Q R) → ((n : ℕ) → answer_after n r.answer (x.ends r.service (plain x.emission r.heard)) ≡ r.answer) → (row_heard x frame [] r).answer ≡ r.answer
  heard_none frame r stays = ap (λ l. answer_after frame r.answer (x.ends r.service (plain x.emission l))) (append-nil r.heard) ∙ stays frame

  -- ---- NOTHING BEGAN
  free_at : (d : Side M Q R) (now : Option (Row M Q R)) → d.now ≡ now → ((r : Row M Q R) → now ≡ Some r → is_over x d.halves.out.holding d.fresh r ≡ true × ends_unheard x acknowledged r ≡ false) → IsFree x acknowledged d
  free_at d None e k = record { free = ap (is_free x d) e; done = ap (is_acknowledged x acknowledged d) e }
  free_at d (Some r) e k =
      let both = k r refl in
      record { free = ap (is_free x d) e ∙ both.0; done = ap (is_acknowledged x acknowledged d) e ∙ ap (λ b. if b then is_none d.halves.out.holding else true) both.1 }

  over_again : (d : Side M Q R) (r : Row M Q R) → left x r ≡ [] → (answer : R × ℕ) → r.answer ≡ Some answer → d.fresh ≡ false → is_over x d.halves.out.holding d.fresh r ≡ true
  over_again d r none answer is sent =
      ap (λ l. is_none_left l && (if x.handed r.service && is_none r.answer then is_none d.halves.out.holding else is_some r.answer && not d.fresh)) none
      ∙ ap (λ (o : Option (R × ℕ)). if x.handed r.service && is_none o then is_none d.halves.out.holding else is_some o && not d.fresh) is
      ∙ either (x.handed r.service) ∙ ap not sent
    where
      either : (h : Bool) → (if h && false then is_none d.halves.out.holding else not d.fresh) ≡ not d.fresh
      either true = refl
      either false = refl

  -- rows that heard the same and have the same answer end alike
  unheard_same : (t r : Row M Q R) → t.service ≡ r.service → t.answer ≡ r.answer → t.heard ≡ r.heard → ends_unheard x acknowledged t ≡ ends_unheard x acknowledged r
  unheard_same t r service answer words =
      λ i. acknowledged (service i) && (is_none (answer i) || outnumbers (x.planned (service i) (plain x.emission (words i))) (plain x.emission (words i)))

  -- by the row that was told on, or wasn't
  module _ (d : Side M Q R) (answered : NowAnswered x d)
      (known : (r : Row M Q R) → d.now ≡ Some r → (answer : R × ℕ) → r.answer ≡ Some answer → ends_unheard x acknowledged r ≡ false → (left x r ≡ []) × (d.fresh ≡ false)) where
    was_over : (r : Row M Q R) → d.now ≡ Some r → (t : Row M Q R) → t.service ≡ r.service → t.answer ≡ r.answer → t.heard ≡ r.heard → (fresh : Bool) → Held fresh t → (is_over x d.halves.out.holding d.fresh r ≡ true) × (ends_unheard x acknowledged r ≡ false)
    was_over r now t service answer words fresh h =
        let quiet : ends_unheard x acknowledged r ≡ false = sym (unheard_same t r service answer words) ∙ h.quiet in
        let is : r.answer ≡ Some h.answer = sym answer ∙ h.is in
        let k = known r now h.answer is quiet in
        (over_again d r k.0 h.answer is k.1, quiet)

    behind_row : (frame station : ℕ) (back : List (Datagram M)) (u : Side M Q R) (r t : Row M Q R) → d.now ≡ Some r → u.now ≡ Some t → t.service ≡ r.service → t.answer ≡ r.answer → t.heard ≡ r.heard →
        (let k = side_back x frame station back u in HeldStill station back u k → IsFree x acknowledged k → (is_over x d.halves.out.holding d.fresh r ≡ true) × (ends_unheard x acknowledged r ≡ false))
    behind_row frame station back u r t now next service answer words h free =
        let k = side_back x frame station back u in
        let z : k.now ≡ Some (row_heard x frame [] t) = ap (λ ms. option_map (λ r. row_heard x frame ms r) u.now) h.nothing ∙ ap (option_map (λ r. row_heard x frame [] r)) next in
        let stays : (n : ℕ) → answer_after n t.answer (x.ends t.service (plain x.emission t.heard)) ≡ t.answer =
        λ n. (λ i. answer_after n (answer i) (x.ends (service i) (plain x.emission (words i)))) ∙ answered r now n ∙ sym answer in
        let over = held_over k.halves.out.holding k.fresh (row_heard x frame [] t) h.held (sym (ap (is_free x k) z) ∙ free.free) (sym (ap (is_acknowledged x acknowledged k) z) ∙ free.done) in
        was_over r now (row_heard x frame [] t) service (heard_none frame t stays ∙ answer) (append-nil t.heard ∙ words) k.fresh over

    told_by : (frame station : ℕ) (back : List (Datagram M)) (r : Row M Q R) → d.now ≡ Some r → (ms : List M) →
        (let u = side_holds d ms in let k = side_back x frame station back u in HeldStill station back u k → IsFree x acknowledged k → (is_over x d.halves.out.holding d.fresh r ≡ true) × (ends_unheard x acknowledged r ≡ false))
    told_by frame station back r now [] h free = behind_row frame station back d r r now now refl refl refl h free
    told_by frame station back r now (m ∷ ms) h free = behind_row frame station back (side_holds d (m ∷ ms)) r (row_told m r) now (ap (option_map (λ z. row_told m z)) now) refl refl refl h free

    pub ready : (frame station : ℕ) (back : List (Datagram M)) (holding : Option (LinkMail M)) (hold : Bool) → (let u = side_holds d (next_mail x d.now holding hold) in let k = side_back x frame station back u in HeldStill station back u k → IsFree x acknowledged k → IsFree x acknowledged d)
    ready frame station back holding hold h free = free_at d d.now refl (λ r now. told_by frame station back r now (next_mail x d.now holding hold) h free)

-- ---- A SERVICE BY MAILS BEGAN: it has no answer
module _ {M Q R : Type 0} (x : Speech M Q R) (acknowledged : Q → Bool) (q : Q) (silent : x.ends q [] ≡ None) where
  new_row : (holding : Option (LinkMail M)) (fresh : Bool) (r : Row M Q R) → holding ≢ None → r.answer ≡ None → is_over x holding fresh r ≡ true → ⊥
  new_row holding fresh r some none over =
      go (x.handed r.service && is_none r.answer) (and_parts (is_none_left (left x r)) (if x.handed r.service && is_none r.answer then is_none holding else is_some r.answer && not fresh) over).1
    where
      go : (b : Bool) → (if b then is_none holding else is_some r.answer && not fresh) ≡ true → ⊥
      go true e = not_held holding some e
      go false e = absurd (let no : false ≡ true = sym (ap (λ (o : Option (R × ℕ)). is_some o && not fresh) none) ∙ e in cc)

  new_behind : (frame station : ℕ) (back : List (Datagram M)) (u : Side M Q R) (r : Row M Q R) → u.now ≡ Some r → r.service ≡ q → r.answer ≡ None → r.heard ≡ [] →
      (let k = side_back x frame station back u in HeldStill station back u k → IsFree x acknowledged k → ⊥)
  new_behind frame station back u r now service none quiet h free =
      let k = side_back x frame station back u in
      let z : k.now ≡ Some (row_heard x frame [] r) = ap (λ ms. option_map (λ r. row_heard x frame ms r) u.now) h.nothing ∙ ap (option_map (λ r. row_heard x frame [] r)) now in
      let answer : (row_heard x frame [] r).answer ≡ None =
      ap (λ l. answer_after frame r.answer (x.ends r.service (plain x.emission (l ++ [])))) quiet ∙ ap (λ z. answer_after frame r.answer (x.ends z [])) service ∙ ap (answer_after frame r.answer) silent ∙ ap (λ o. answer_after frame o None) none in
      new_row k.halves.out.holding k.fresh (row_heard x frame [] r) h.held answer (sym (ap (is_free x k) z) ∙ free.free)

  new_told : (frame station : ℕ) (back : List (Datagram M)) (e : Side M Q R) → e.now ≡ Some (begun q frame) → (ms : List M) →
      (let u = side_holds e ms in let k = side_back x frame station back u in HeldStill station back u k → IsFree x acknowledged k → ⊥)
  new_told frame station back e now [] h free = new_behind frame station back e (begun q frame) now refl refl refl h free
  new_told frame station back e now (m ∷ ms) h free = new_behind frame station back (side_holds e (m ∷ ms)) (row_told m (begun q frame)) (ap (option_map (λ z. row_told m z)) now) refl refl refl h free

  -- it came into hand
  not_longer : {X : Type 0} (xs : List X) (y : X) → xs ≡ xs ++ y ∷ [] → ⊥
  not_longer xs y e = absurd (omega (arith, ap length e, length-append xs (y ∷ [])))

  took_free : (frame : ℕ) (a : Account Q R) (b : Bool) → (if b then record a { started = starts a (Service.Mails q) frame } else a).started ≡ starts a (Service.Mails q) frame → b ≡ true
  took_free frame a true e = refl
  took_free frame a false e = absurd (not_longer a.started (record { service = Service.Mails q; frame = frame }) e)

  began_now : (frame : ℕ) (d : Side M Q R) (now : Option (Row M Q R)) → (x.valid q && is_free x d now) ≡ true → (side_begins x frame d now (Some q)).now ≡ Some (begun q frame)
  began_now frame d None e = ap (λ (b : Bool). (if b then record d { now = Some (begun q frame) } else d).now) (and_parts (x.valid q) true e).0
  began_now frame d (Some r) e = ap (λ (b : Bool). (if b then record d { past = d.past ++ r ∷ []; now = Some (begun q frame) } else d).now) e

  pub begun_none : (e : Era M Q R) (frame : ℕ) (hold : Bool) (station : ℕ) (back : List (Datagram M)) (hand : Option Duty) →
      (account_begins x acknowledged frame e.side e.account hand (Some (Service.Mails q))).started ≡ starts e.account (Service.Mails q) frame →
      (let u = side_next x frame e.side (record { begin = mails_begin hand (Some (Service.Mails q)); hold = hold }) in let k = side_back x frame station back u in HeldStill station back u k → IsFree x acknowledged k → ⊥)
  begun_none e frame hold station back (Some duty) took h free = not_longer e.account.started (record { service = Service.Mails q; frame = frame }) took
  begun_none e frame hold station back None took h free =
      let began = side_begins x frame e.side e.side.now (Some q) in
      let may = took_free frame e.account (x.valid q && is_free x e.side e.side.now) took in
      new_told frame station back began (began_now frame e.side e.side.now may) (next_mail x began.now began.halves.out.holding hold) h free

-- ---- A STATE SERVICE BEGAN: it might
module _ {M Q R : Type 0} (x : Speech M Q R) (acknowledged : Q → Bool) (frame : ℕ) (d : Side M Q R) (a : Account Q R) (target : ℕ) where
  same_not : a.started ≡ starts a (Service.State target) frame → ⊥
  same_not e = absurd (omega (arith, ap length e, length-append a.started (record { service = Service.State target; frame = frame } ∷ [])))

  took_state : (b : Bool) → (if b then state_begins a target frame else a).started ≡ starts a (Service.State target) frame → b ≡ true
  took_state true e = refl
  took_state false e = absurd (same_not e)

  pub state_free : (hand : Option Duty) → (account_begins x acknowledged frame d a hand (Some (Service.State target))).started ≡ starts a (Service.State target) frame → (hand ≡ None) × IsFree x acknowledged d
  state_free (Some duty) took = absurd (same_not took)
  state_free None took =
      let both = and_parts (is_free x d d.now) (is_acknowledged x acknowledged d d.now) (took_state (is_free x d d.now && is_acknowledged x acknowledged d d.now) took) in
      (refl, record { free = both.0; done = both.1 })
