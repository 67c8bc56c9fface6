-- WHAT A RETURN MAKES of an account and of a side, and which service is the newest of those that are scripted.
use Rattle.std.proofs.Common.{◌≡◌, ℕ, Bool, true, false, Option, Some, None, List, [], ◌∷◌, ◌++◌, length, refl, ap, sym, ◌∙◌, subst, arith, append_assoc, append-nil}
use Rattle.std.specs.Prelude.{◌==◌, ◌&&◌, not, option_map, is_some, if◌then◌else◌}
use Rattle.std.proofs.lemmas.List.{map-append}
use Rattle.life_runs.specs.of_exchange_model.Areas.{Areas}
use Rattle.life_runs.specs.of_exchange_model.Exchange.{Speech, plain}
use Rattle.life_runs.specs.of_exchange_model.Rows.{Row, answer_after, row_heard}
use Rattle.life_runs.specs.of_life_model.Lives.{Era, Life, Stand, returns_to_init}
use Rattle.life_runs.specs.of_link_mails.Body.{Body}
use Rattle.life_runs.specs.of_master_duty.Reply.{Reply}
use Rattle.life_runs.specs.of_master_hand.Spoken.{Asked, sdo, file, drive, net, passed, ends, handed, is_passed, hand_speech}
use Rattle.life_runs.specs.of_segment_model.Record.{is_for}
use Rattle.life_runs.specs.of_segment_model.Seats.{newest}
use Rattle.life_runs.specs.of_segment_model.Slaves.{Datagram}
use Rattle.life_runs.specs.of_state_model.Stated.{Service}
use Rattle.life_runs.specs.of_state_model.Accounts.{Account, Duty, Change, Progress, access_done, account_by, account_met, account_back}
use Rattle.run_frames.specs.ScriptAnswers.{Came, Scripted, RowRests, Awaits, Changes, answers_in, side_answers, now_answer, reached_at, change_outcome, scripted_in, scripted_mails, era_scripted, eras_scripted, life_scripted}
use Rattle.run_frames.proofs.Lists.{Answer, Over, scripted_state, scripted_one, steady, no_outcome}

abbrev pub Held : Type 0
Held = Row Body Asked Reply

abbrev pub answer_of : Held → Answer
answer_of r = r.answer

-- A FRAME COMES BACK TO AN ACCOUNT: without a change of state in hand nothing changes; one in hand goes on, or is over with this frame
pub data Went (frame : ℕ) (old : Over) (b : Account Asked Reply) (target : ℕ) : Type 0 where
  on : (duty : Duty) → b.hand ≡ Some duty → duty.target ≡ target → b.over ≡ old → Went frame old b target
  over : (c : Change Reply) → b.hand ≡ None → b.over ≡ old ++ c ∷ [] → c.completed ≡ frame → Went frame old b target

module _ (station frame : ℕ) where
  pub no_hand : (a : Account Asked Reply) (ds : List (Datagram Body)) → a.hand ≡ None → account_back station frame a ds ≡ a
  no_hand a [] e = refl
  no_hand a (d ∷ ds) e = ap (λ (h : Option Duty). account_back station frame (account_met station frame a h d) ds) e ∙ no_hand a ds e

  pub hand_back : (a : Account Asked Reply) (ds : List (Datagram Body)) (duty : Duty) → a.hand ≡ Some duty → Went frame a.over (account_back station frame a ds) duty.target
  hand_back a [] duty e = Went.on duty e refl refl
  hand_back a (d ∷ ds) duty e =
      subst (λ (h : Option Duty). Went frame a.over (account_back station frame (account_met station frame a h d) ds) duty.target) (sym e)
      (step (is_for station d.address && not (d.counter == 0)) (access_done duty.target duty.stage d.access d.found) (λ b k f. hand_back b ds k f))
    where
      step : (met : Bool) (p : Progress Reply) → ((b : Account Asked Reply) (k : Duty) → b.hand ≡ Some k → Went frame b.over (account_back station frame b ds) k.target) →
          Went frame a.over (account_back station frame (if met then account_by frame a duty p else a) ds) duty.target
      step true (Progress.On stage) h = h (record a { hand = Some (record duty { stage = stage }) }) (record duty { stage = stage }) refl
      step true (Progress.Over answer) h =
          let c : Change Reply = record { target = duty.target; frame = duty.frame; answer = answer; completed = frame } in
          let b : Account Asked Reply = record a { hand = None; over = a.over ++ c ∷ [] } in
          subst (λ (z : Account Asked Reply). Went frame a.over z duty.target) (sym (no_hand b ds refl)) (Went.over c refl refl refl)
      step false p h = h a duty e

-- A FRAME COMES BACK TO A SIDE: an answer that is there stays
pub after_none : (frame : ℕ) (found : Option Reply) (reply : Reply) (g : ℕ) → answer_after frame None found ≡ Some (reply, g) → (g ≡ frame) × (found ≡ Some reply)
after_none frame None reply g e = absurd (let bad : None ≡ Some (reply, g) = e in cc)
after_none frame (Some r) reply g e = (sym (ap frame_of e), ap some_of e)
  where
    frame_of : Answer → ℕ
    frame_of None = 0
    frame_of (Some a) = a.1

    some_of : Answer → Option Reply
    some_of None = None
    some_of (Some a) = Some a.0

after_rests : (frame : ℕ) (old : Answer) (found : Option Reply) → is_some old ≡ true → answer_after frame old found ≡ old
after_rests frame (Some a) found e = refl
after_rests frame None found e = absurd (let bad : false ≡ true = e in cc)

pub many_answers : (x : Speech Body Asked Reply) (frame : ℕ) (ms : List Body) (past : List Held) (now : Option Held) → length (answers_in (past ++ newest (option_map (λ r. row_heard x frame ms r) now))) ≡ length (answers_in (past ++ newest now))
many_answers x frame ms [] None = refl
many_answers x frame ms [] (Some r) = refl
many_answers x frame ms (p ∷ past) now = let more = many_answers x frame ms past now in omega (arith, more)

module _ (areas : Areas) (frame : ℕ) (ms : List Body) where
  abbrev pub hears : Held → Held
  hears r = row_heard (hand_speech areas) frame ms r

  row_rests : (r : Held) → RowRests (Some r) → (hears r).answer ≡ r.answer
  row_rests r e = after_rests frame r.answer (ends areas r.service (plain (hand_speech areas).emission (r.heard ++ ms))) e

  pub answers_rest : (past : List Held) (now : Option Held) → RowRests now → answers_in (past ++ newest (option_map (λ r. hears r) now)) ≡ answers_in (past ++ newest now)
  answers_rest past None h = refl
  answers_rest past (Some r) h = map-append answer_of past (hears r ∷ []) ∙ ap (λ (z : Answer). answers_in past ++ z ∷ []) (row_rests r h) ∙ sym (map-append answer_of past (r ∷ []))

  pub rests_heard : (now : Option Held) → RowRests now → RowRests (option_map (λ r. hears r) now)
  rests_heard None h = tt
  rests_heard (Some r) e = ap is_some (row_rests r e) ∙ e

-- a service that has replies is no mail that is passed on
pub not_passed : (areas : Areas) (q : Asked) → handed areas q ≡ false → is_passed q ≡ true → ⊥
not_passed areas (sdo q) h e = absurd (let bad : false ≡ true = e in cc)
not_passed areas (file q) h e = absurd (let bad : false ≡ true = e in cc)
not_passed areas (drive q) h e = absurd (let bad : false ≡ true = e in cc)
not_passed areas (net q) h e = absurd (let bad : false ≡ true = e in cc)
not_passed areas (passed m) h e = absurd (let bad : true ≡ false = h in cc)

-- the services of the epochs that are over
abbrev pub past_scripted : Life Body Asked Reply → List Scripted
past_scripted l = eras_scripted l.gave l.past l.era.opened

-- THE NEWEST of what is scripted is the service by mails that awaits its reply
abbrev pub front_scripted : (l : Life Body Asked Reply) → Awaits l.era → List Scripted
front_scripted l w = past_scripted l ++ scripted_in None w.front (answers_in l.era.side.past) l.era.account.over

awaits_answers : (e : Era Body Asked Reply) (w : Awaits e) → side_answers e.side ≡ answers_in e.side.past ++ now_answer e.side.now ∷ []
awaits_answers e w =
    ap (λ (z : Option Held). answers_in (e.side.past ++ newest z)) w.now ∙ map-append answer_of e.side.past (w.row ∷ [])
    ∙ ap (λ (z : Option Held). answers_in e.side.past ++ now_answer z ∷ []) (sym w.now)

pub awaits_scripted : (l : Life Body Asked Reply) (w : Awaits l.era) → life_scripted l ≡ front_scripted l w ++ record { frame = w.frame; came = Came.mails (now_answer l.era.side.now) } ∷ []
awaits_scripted l w =
    (λ i. past_scripted l ++ scripted_in None (w.started i) (awaits_answers l.era w i) l.era.account.over)
    ∙ ap (λ ss. past_scripted l ++ ss) (scripted_one None w.front (answers_in l.era.side.past) l.era.account.over w.asked w.frame (now_answer l.era.side.now) w.beside
    ∙ ap (λ z. scripted_in None w.front (answers_in l.era.side.past) l.era.account.over ++ scripted_mails z w.frame (now_answer l.era.side.now) []) w.script)
    ∙ sym (append_assoc (past_scripted l) (scripted_in None w.front (answers_in l.era.side.past) l.era.account.over) (record { frame = w.frame; came = Came.mails (now_answer l.era.side.now) } ∷ []))

-- it goes on awaiting it, or has it of this frame
pub record AwaitsBack (areas : Areas) (frame : ℕ) (l : Life Body Asked Reply) (w : Awaits l.era) (m : Life Body Asked Reply) : Type 0 where
  pub stand : m.stand ≡ Stand.Open
  pub era : Awaits m.era
  pub front : front_scripted m era ≡ front_scripted l w
  pub at : era.frame ≡ w.frame
  pub heard : List Body
  pub answer : now_answer m.era.side.now ≡ answer_after frame None (ends areas w.row.service heard)

-- or the change of state in hand
abbrev changes_before : (e : Era Body Asked Reply) → Changes e → List Scripted
changes_before e w = scripted_in None w.front (side_answers e.side) e.account.over

abbrev pub changes_front : (l : Life Body Asked Reply) → Changes l.era → List Scripted
changes_front l w = past_scripted l ++ changes_before l.era w

abbrev pub change_reported : Change Reply → Came
change_reported c = Came.state (Some (c.answer, c.completed))

-- whatever opens the slave anew
change_last : (e : Era Body Asked Reply) (w : Changes e) (anew : Option ℕ) → era_scripted anew e ≡ changes_before e w ++ record { frame = w.frame; came = Came.state (change_outcome (returns_to_init w.duty.target) anew None) } ∷ []
change_last e w anew =
    (λ i. scripted_in anew (w.started i) (side_answers e.side) (sym (append-nil e.account.over) i))
    ∙ scripted_state anew w.front (side_answers e.side) e.account.over [] w.duty.target w.frame w.beside
    ∙ ap (λ ss. ss ++ record { frame = w.frame; came = Came.state (change_outcome (returns_to_init w.duty.target) anew None) } ∷ []) (steady anew None w.front (side_answers e.side) e.account.over w.beside)

pub changes_scripted : (l : Life Body Asked Reply) (w : Changes l.era) → life_scripted l ≡ changes_front l w ++ record { frame = w.frame; came = Came.state None } ∷ []
changes_scripted l w =
    ap (λ ss. past_scripted l ++ ss) (change_last l.era w None ∙ ap (λ z. changes_before l.era w ++ record { frame = w.frame; came = Came.state z } ∷ []) (no_outcome (returns_to_init w.duty.target)))
    ∙ sym (append_assoc (past_scripted l) (changes_before l.era w) (record { frame = w.frame; came = Came.state None } ∷ []))

-- one that returns its slave to Init, which a frame opens anew
pub changes_opened : (l : Life Body Asked Reply) (w : Changes l.era) (g : ℕ) → returns_to_init w.duty.target ≡ true → past_scripted l ++ era_scripted (Some g) l.era ≡ changes_front l w ++ record { frame = w.frame; came = Came.state (reached_at (Some g)) } ∷ []
changes_opened l w g e =
    ap (λ ss. past_scripted l ++ ss) (change_last l.era w (Some g) ∙ ap (λ (b : Bool). changes_before l.era w ++ record { frame = w.frame; came = Came.state (change_outcome b (Some g) None) } ∷ []) e)
    ∙ sym (append_assoc (past_scripted l) (changes_before l.era w) (record { frame = w.frame; came = Came.state (reached_at (Some g)) } ∷ []))

-- with its outcome
pub change_with : (l : Life Body Asked Reply) (w : Changes l.era) (c : Change Reply) →
    past_scripted l ++ scripted_in None (w.front ++ record { service = Service.State w.duty.target; frame = w.frame } ∷ []) (side_answers l.era.side) (l.era.account.over ++ c ∷ []) ≡ changes_front l w ++ record { frame = w.frame; came = change_reported c } ∷ []
change_with l w c =
    ap (λ ss. past_scripted l ++ ss) (scripted_state None w.front (side_answers l.era.side) l.era.account.over (c ∷ []) w.duty.target w.frame w.beside)
    ∙ sym (append_assoc (past_scripted l) (changes_before l.era w) (record { frame = w.frame; came = change_reported c } ∷ []))

-- the last of these
abbrev last_of : {T : Type 0} → T → List T → T
last_of d [] = d
last_of d (x ∷ xs) = last_of x xs

last_more : {T : Type 0} (d : T) (xs : List T) (y : T) → last_of d (xs ++ y ∷ []) ≡ y
last_more d [] y = refl
last_more d (x ∷ xs) y = last_more x xs y

pub last_change : (xs ys : Over) (c d : Change Reply) → xs ++ c ∷ [] ≡ ys ++ d ∷ [] → c ≡ d
last_change xs ys c d e = sym (last_more c xs c) ∙ ap (λ (z : Over). last_of c z) e ∙ last_more c ys d
