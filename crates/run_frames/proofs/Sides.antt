-- WHAT COMES INTO HAND, and what that makes of a side and an account.
use Rattle.std.proofs.Common.{◌≡◌, ℕ, Bool, true, false, Option, Some, None, List, [], ◌∷◌, ◌++◌, length, length-append, refl, ap, sym, ◌∙◌, subst, arith, append-nil}
use Rattle.std.specs.Prelude.{◌&&◌, not, is_some, is_none, option_map, if◌then◌else◌}
use Rattle.std.proofs.lemmas.List.{map-append}
use Rattle.life_runs.specs.of_exchange_model.Exchange.{Speech}
use Rattle.life_runs.specs.of_exchange_model.Rows.{Row, begun, row_told, left}
use Rattle.life_runs.specs.of_link_mails.Body.{Body}
use Rattle.life_runs.specs.of_master_duty.Reply.{Reply}
use Rattle.life_runs.specs.of_master_hand.Spoken.{Asked}
use Rattle.life_runs.specs.of_segment_model.Seats.{Side, newest, rows_of, is_none_left, is_over, next_mail, side_begins, side_holds}
use Rattle.life_runs.specs.of_state_model.Stated.{Service}
use Rattle.life_runs.specs.of_state_model.Accounts.{Account, Duty, Stage, mails_begin, is_free, is_acknowledged, starts, state_begins, account_begins}
use Rattle.run_frames.specs.ScriptAnswers.{RowRests, answers_in, side_answers}
use Rattle.run_frames.proofs.Lists.{Answer}

abbrev Held : Type 0
Held = Row Body Asked Reply

abbrev answer_of : Held → Answer
answer_of r = r.answer

pub longer : {T : Type 0} (xs : List T) (y : T) → xs ≡ xs ++ y ∷ [] → ⊥
longer xs y e = let n = length-append xs (y ∷ []) in let m = ap length e in absurd (omega (arith, n, m))

-- THE NEXT MAIL IS TAKEN UP, or none is
pub holds_answers : (d : Side Body Asked Reply) (ms : List Body) → side_answers (side_holds d ms) ≡ side_answers d
holds_answers d [] = refl
holds_answers d (m ∷ ms) = go d.now
  where
    go : (now : Option Held) → answers_in (d.past ++ newest (option_map (λ r. row_told m r) now)) ≡ answers_in (d.past ++ newest now)
    go None = refl
    go (Some r) = map-append answer_of d.past (row_told m r ∷ []) ∙ sym (map-append answer_of d.past (r ∷ []))

pub holds_past : (d : Side Body Asked Reply) (ms : List Body) → (side_holds d ms).past ≡ d.past
holds_past d [] = refl
holds_past d (m ∷ ms) = refl

-- a row stays, but for the mails that were held for it
pub record RowStays (r : Held) (now : Option Held) : Type 0 where
  pub row : Held
  pub is : now ≡ Some row
  pub service : row.service ≡ r.service
  pub answer : row.answer ≡ r.answer

pub holds_row : (d : Side Body Asked Reply) (ms : List Body) (r : Held) → d.now ≡ Some r → RowStays r (side_holds d ms).now
holds_row d [] r e = record { row = r; is = e; service = refl; answer = refl }
holds_row d (m ∷ ms) r e = record { row = row_told m r; is = ap (option_map (λ r. row_told m r)) e; service = refl; answer = refl }

pub holds_rests : (d : Side Body Asked Reply) (ms : List Body) → RowRests d.now → RowRests (side_holds d ms).now
holds_rests d [] h = h
holds_rests d (m ∷ ms) h = go d.now h
  where
    go : (now : Option Held) → RowRests now → RowRests (option_map (λ r. row_told m r) now)
    go None h = tt
    go (Some r) h = h

-- A SERVICE BY MAILS comes into hand
pub record SideMails (d d' : Side Body Asked Reply) (q : Asked) : Type 0 where
  pub row : Held
  pub past : d'.past ≡ rows_of d
  pub now : d'.now ≡ Some row
  pub service : row.service ≡ q
  pub answer : row.answer ≡ None

held_mails : (d e : Side Body Asked Reply) (ms : List Body) (q : Asked) → SideMails d e q → SideMails d (side_holds e ms) q
held_mails d e ms q s =
    let r = holds_row e ms s.row s.now in
    record { row = r.row; past = holds_past e ms ∙ s.past; now = r.is; service = r.service ∙ s.service; answer = r.answer ∙ s.answer }

module _ (x : Speech Body Asked Reply) (frame : ℕ) (d : Side Body Asked Reply) (q : Asked) where
  -- where the newest row is over
  begins_by : (now : Option Held) → d.now ≡ now → (x.valid q && is_free x d now) ≡ true → SideMails d (side_begins x frame d now (Some q)) q
  begins_by None e free = go (x.valid q) free
    where
      go : (c : Bool) → (c && true) ≡ true → SideMails d (if c then record d { now = Some (begun q frame) } else d) q
      go true f = record { row = begun q frame; past = sym (append-nil d.past) ∙ ap (λ (z : Option Held). d.past ++ newest z) (sym e); now = refl; service = refl; answer = refl }
      go false f = absurd (let bad : false ≡ true = f in cc)
  begins_by (Some r) e free = go (x.valid q && is_over x d.halves.out.holding d.fresh r) free
    where
      go : (c : Bool) → c ≡ true → SideMails d (if c then record d { past = d.past ++ r ∷ []; now = Some (begun q frame) } else d) q
      go true f = record { row = begun q frame; past = ap (λ (z : Option Held). d.past ++ newest z) (sym e); now = refl; service = refl; answer = refl }
      go false f = absurd (let bad : false ≡ true = f in cc)

-- the side and the account behind a wish
module _ (x : Speech Body Asked Reply) (ack : Asked → Bool) (frame : ℕ) (d : Side Body Asked Reply) (a : Account Asked Reply) where
  abbrev pub next_account : Option (Service Asked) → Account Asked Reply
  next_account b = account_begins x ack frame d a a.hand b

  abbrev pub begun_side : Option (Service Asked) → Side Body Asked Reply
  begun_side b = side_begins x frame d d.now (mails_begin a.hand b)

  abbrev pub next_side : Option (Service Asked) → Bool → Side Body Asked Reply
  next_side b hold = let e = begun_side b in side_holds e (next_mail x e.now e.halves.out.holding hold)

  -- NOTHING comes into hand
  pub record Rests (a' : Account Asked Reply) (d' : Side Body Asked Reply) : Type 0 where
    pub started : a'.started ≡ a.started
    pub hand : a'.hand ≡ a.hand
    pub answers : side_answers d' ≡ side_answers d
    pub past : d'.past ≡ d.past
    pub row : (r : Held) → d.now ≡ Some r → RowStays r d'.now
    pub over : a'.over ≡ a.over
    pub rests : RowRests d.now → RowRests d'.now

  -- a service by mails does
  pub record Mails (q : Asked) (a' : Account Asked Reply) (d' : Side Body Asked Reply) : Type 0 where
    pub started : a'.started ≡ starts a (Service.Mails q) frame
    pub hand : a'.hand ≡ None
    pub old : a.hand ≡ None
    pub over : a'.over ≡ a.over
    pub side : SideMails d d' q
    pub free : is_free x d d.now ≡ true

  -- a state service does
  pub record State (target : ℕ) (a' : Account Asked Reply) (d' : Side Body Asked Reply) : Type 0 where
    pub started : a'.started ≡ starts a (Service.State target) frame
    pub hand : a'.hand ≡ Some (record { target = target; frame = frame; stage = Stage.Drains })
    pub old : a.hand ≡ None
    pub over : a'.over ≡ a.over
    pub answers : side_answers d' ≡ side_answers d
    pub past : d'.past ≡ d.past
    pub row : (r : Held) → d.now ≡ Some r → RowStays r d'.now
    pub rests : RowRests d.now → RowRests d'.now
    pub free : is_free x d d.now ≡ true

  -- nothing that comes into hand ends a change of state
  either : (b : Bool) (c : Account Asked Reply) → c.over ≡ a.over → (if b then c else a).over ≡ a.over
  either true c e = e
  either false c e = refl

  over_begins : (hand : Option Duty) (b : Option (Service Asked)) → (account_begins x ack frame d a hand b).over ≡ a.over
  over_begins hand None = refl
  over_begins (Some duty) (Some wish) = refl
  over_begins None (Some (Service.Mails q)) = either (x.valid q && is_free x d d.now) (record a { started = starts a (Service.Mails q) frame }) refl
  over_begins None (Some (Service.State target)) = either (is_free x d d.now && is_acknowledged x ack d d.now) (state_begins a target frame) refl

  same_account : (hand : Option Duty) → account_begins x ack frame d a hand None ≡ a
  same_account None = refl
  same_account (Some duty) = refl

  same_side : (hand : Option Duty) → side_begins x frame d d.now (mails_begin hand None) ≡ d
  same_side None = refl
  same_side (Some duty) = refl

  rests_none : (hold : Bool) → Rests (next_account None) (next_side None hold)
  rests_none hold =
      let ms = (let e = begun_side None in next_mail x e.now e.halves.out.holding hold) in
      let same : begun_side None ≡ d = same_side a.hand in
      record {
        started = ap (λ (z : Account Asked Reply). z.started) (same_account a.hand);
        hand = ap (λ (z : Account Asked Reply). z.hand) (same_account a.hand);
        answers = holds_answers (begun_side None) ms ∙ ap side_answers same;
        past = holds_past (begun_side None) ms ∙ ap (λ (z : Side Body Asked Reply). z.past) same;
        row = λ r e. holds_row (begun_side None) ms r (ap (λ (z : Side Body Asked Reply). z.now) same ∙ e);
        over = over_begins a.hand None;
        rests = λ h. holds_rests (begun_side None) ms (subst (λ (z : Side Body Asked Reply). RowRests z.now) (sym same) h);
      }

  pub rests : (b : Option (Service Asked)) (hold : Bool) → b ≡ None → Rests (next_account b) (next_side b hold)
  rests b hold e = subst (λ (z : Option (Service Asked)). Rests (next_account z) (next_side z hold)) (sym e) (rests_none hold)

  -- by mails: only where the newest is over, and no state service in hand
  may_mails : (q : Asked) (hand : Option Duty) → (account_begins x ack frame d a hand (Some (Service.Mails q))).started ≡ starts a (Service.Mails q) frame → (hand ≡ None) × ((x.valid q && is_free x d d.now) ≡ true)
  may_mails q (Some duty) e = absurd (longer a.started _ e)
  may_mails q None e = (refl, go (x.valid q && is_free x d d.now) e)
    where
      go : (c : Bool) → (if c then record a { started = starts a (Service.Mails q) frame } else a).started ≡ starts a (Service.Mails q) frame → c ≡ true
      go true f = refl
      go false f = absurd (longer a.started _ f)

  mails_hand : (q : Asked) (hand : Option Duty) → (account_begins x ack frame d a hand (Some (Service.Mails q))).hand ≡ a.hand
  mails_hand q (Some duty) = refl
  mails_hand q None = go (x.valid q && is_free x d d.now)
    where
      go : (c : Bool) → (if c then record a { started = starts a (Service.Mails q) frame } else a).hand ≡ a.hand
      go true = refl
      go false = refl

  wishes : (q : Asked) (hand : Option Duty) → hand ≡ None → mails_begin hand (Some (Service.Mails q)) ≡ Some q
  wishes q None e = refl
  wishes q (Some duty) e = absurd (cc)

  second : (v f : Bool) → (v && f) ≡ true → f ≡ true
  second true f e = e
  second false f e = absurd (let bad : false ≡ true = e in cc)

  mails_some : (q : Asked) (hold : Bool) → (next_account (Some (Service.Mails q))).started ≡ starts a (Service.Mails q) frame → Mails q (next_account (Some (Service.Mails q))) (next_side (Some (Service.Mails q)) hold)
  mails_some q hold e =
      let may = may_mails q a.hand e in
      let b = begun_side (Some (Service.Mails q)) in
      let begins : SideMails d b q = subst (λ (z : Option Asked). SideMails d (side_begins x frame d d.now z) q) (sym (wishes q a.hand may.0)) (begins_by x frame d q d.now refl may.1) in
      record {
        started = e;
        hand = mails_hand q a.hand ∙ may.0;
        old = may.0;
        over = over_begins a.hand (Some (Service.Mails q));
        side = held_mails d b (next_mail x b.now b.halves.out.holding hold) q begins;
        free = second (x.valid q) (is_free x d d.now) may.1;
      }

  pub mails : (b : Option (Service Asked)) (hold : Bool) (q : Asked) → b ≡ Some (Service.Mails q) → (next_account b).started ≡ starts a (Service.Mails q) frame → Mails q (next_account b) (next_side b hold)
  mails b hold q e = subst (λ (z : Option (Service Asked)). (next_account z).started ≡ starts a (Service.Mails q) frame → Mails q (next_account z) (next_side z hold)) (sym e) (λ f. mails_some q hold f)

  -- a state service
  may_state : (target : ℕ) (hand : Option Duty) → (account_begins x ack frame d a hand (Some (Service.State target))).started ≡ starts a (Service.State target) frame →
      ((account_begins x ack frame d a hand (Some (Service.State target))).hand ≡ Some (record { target = target; frame = frame; stage = Stage.Drains })) × (is_free x d d.now ≡ true) × (hand ≡ None)
  may_state target (Some duty) e = absurd (longer a.started _ e)
  may_state target None e = let g = go (is_free x d d.now) (is_acknowledged x ack d d.now) e in (g.0, g.1, refl)
    where
      go : (f g : Bool) → (if f && g then state_begins a target frame else a).started ≡ starts a (Service.State target) frame →
          ((if f && g then state_begins a target frame else a).hand ≡ Some (record { target = target; frame = frame; stage = Stage.Drains })) × (f ≡ true)
      go true true h = (refl, refl)
      go true false h = absurd (longer a.started _ h)
      go false g h = absurd (longer a.started _ h)

  no_wish : (target : ℕ) (hand : Option Duty) → mails_begin {Q = Asked} hand (Some (Service.State target)) ≡ None
  no_wish target None = refl
  no_wish target (Some duty) = refl

  state_some : (target : ℕ) (hold : Bool) → (next_account (Some (Service.State target))).started ≡ starts a (Service.State target) frame → State target (next_account (Some (Service.State target))) (next_side (Some (Service.State target)) hold)
  state_some target hold e =
      let may = may_state target a.hand e in
      let b = begun_side (Some (Service.State target)) in
      let same : b ≡ d = ap (λ (z : Option Asked). side_begins x frame d d.now z) (no_wish target a.hand) in
      record {
        started = e;
        hand = may.0;
        old = may.2;
        over = over_begins a.hand (Some (Service.State target));
        answers = holds_answers b (next_mail x b.now b.halves.out.holding hold) ∙ ap side_answers same;
        past = holds_past b (next_mail x b.now b.halves.out.holding hold) ∙ ap (λ (z : Side Body Asked Reply). z.past) same;
        row = λ r e. holds_row b (next_mail x b.now b.halves.out.holding hold) r (ap (λ (z : Side Body Asked Reply). z.now) same ∙ e);
        rests = λ h. holds_rests b (next_mail x b.now b.halves.out.holding hold) (subst (λ (z : Side Body Asked Reply). RowRests z.now) (sym same) h);
        free = may.1;
      }

  pub state : (b : Option (Service Asked)) (hold : Bool) (target : ℕ) → b ≡ Some (Service.State target) → (next_account b).started ≡ starts a (Service.State target) frame → State target (next_account b) (next_side b hold)
  state b hold target e = subst (λ (z : Option (Service Asked)). (next_account z).started ≡ starts a (Service.State target) frame → State target (next_account z) (next_side z hold)) (sym e) (λ f. state_some target hold f)

  -- A ROW THAT AWAITS ITS REPLY isn't over
  pub not_free : (r : Held) → d.now ≡ Some r → x.handed r.service ≡ false → r.answer ≡ None → is_free x d d.now ≡ false
  not_free r e h n = ap (is_free x d) e ∙ go (is_none_left (left x r)) (x.handed r.service) h (is_none d.halves.out.holding) (not d.fresh)
    where
      go : (p h : Bool) → h ≡ false → (k f : Bool) → (p && (if h && is_none r.answer then k else is_some r.answer && f)) ≡ false
      go p true e k f = absurd (let bad : true ≡ false = e in cc)
      go true false e k f = ap (λ (z : Answer). is_some z && f) n
      go false false e k f = refl
