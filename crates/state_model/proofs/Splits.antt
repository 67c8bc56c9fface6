-- Sides, accounts and a ring that meet in frames alone are a session with accounts, and its mails are a session of mails.
use Rattle.std.proofs.Common.{◌≡◌, ℕ, Bool, List, [], ◌∷◌, ◌++◌, length, refl, ap, sym, ◌∙◌, subst}
use Rattle.segment_model.specs.of_exchange_model.Exchange.{Exchange}
use Rattle.segment_model.specs.Slaves.{Processor, Ring, Move, ring_after, ring_back, ring_steps}
use Rattle.segment_model.specs.Record.{Frame, frame_of}
use Rattle.segment_model.specs.Seats
use Rattle.segment_model.specs.Seats.{Side, Turn, Planned, IsFrame, IsOpening, seats_next, ring_of, sides_of}
use Rattle.segment_model.specs.Split.{IsBound, IsFrameOf, sides_next, sides_after}
use Rattle.segment_model.proofs.Replays.{nexts_sides, turn_sides, turn_ring, turn_back, turn_frames, frame_from}
use Rattle.state_model.specs.Accounts.{Account, Pick}
use Rattle.state_model.specs.Tasks.{TaskTurn, TaskSession, IsTasked, AreServed, MayRun, mails_choices, mails_turn, accounts_next, accounts_after, new_tasks, happens, run}

module _ {V A M Q R : Type 0} (x : Exchange V A M Q R) (acknowledged : Q → Bool) (processor : Processor V) where
  -- the turns that the mails see
  abbrev pub mails_turns : TaskSession V M Q R → List (TaskTurn M Q) → List (Turn M Q)
  mails_turns w [] = []
  mails_turns w (t ∷ ts) = mails_turn w.accounts t ∷ mails_turns (happens x acknowledged processor w t) ts

  -- the session inside is theirs
  pub run_mails : (w : TaskSession V M Q R) (ts : List (TaskTurn M Q)) → Seats.run x processor w.session (mails_turns w ts) ≡ (run x acknowledged processor w ts).session
  run_mails w [] = refl
  run_mails w (t ∷ ts) = run_mails (happens x acknowledged processor w t) ts

  pub may_mails : (w : TaskSession V M Q R) (ts : List (TaskTurn M Q)) → MayRun x acknowledged processor w ts → Seats.MayRun x processor w.session (mails_turns w ts)
  may_mails w [] m = tt
  may_mails w (t ∷ ts) m = (m.0.0, may_mails (happens x acknowledged processor w t) ts m.1)

  pub tasked_bound : (ps : List (Planned V)) (ds : List (ℕ × Side M Q R)) (accounts : List (Account Q R)) (ns : Ring V M) (fs : List (Frame M)) →
      IsTasked x acknowledged processor ps ds accounts ns fs → IsBound x processor ps ds ns fs
  tasked_bound ps ds accounts ns fs b =
      let same = run_mails (new_tasks b.opening ps) b.turns in
      record {
        opening = b.opening;
        quiet = b.quiet;
        turns = mails_turns (new_tasks b.opening ps) b.turns;
        may = may_mails (new_tasks b.opening ps) b.turns b.may;
        sides = ap (λ w. sides_of w.seats) same ∙ b.sides;
        ring = ap (λ w. ring_of w.seats) same ∙ b.ring;
        frames = ap (λ w. w.frames) same ∙ b.frames;
      }

  -- turns behind turns
  run-append : (w : TaskSession V M Q R) (ts : List (TaskTurn M Q)) (t : TaskTurn M Q) → run x acknowledged processor w (ts ++ t ∷ []) ≡ happens x acknowledged processor (run x acknowledged processor w ts) t
  run-append w [] t = refl
  run-append w (u ∷ ts) t = run-append (happens x acknowledged processor w u) ts t

  -- a turn may come
  abbrev MayTurn : TaskSession V M Q R → TaskTurn M Q → Type 0
  MayTurn z t =
      let n = length z.session.frames in
      let asked = seats_next x n z.session.seats (mails_choices z.accounts t.picks) in
      IsFrame asked t.move.sent × AreServed (sides_of asked) (accounts_next x.speech acknowledged n (sides_of z.session.seats) z.accounts t.picks) t.move.sent

  may-append : (w : TaskSession V M Q R) (ts : List (TaskTurn M Q)) (t : TaskTurn M Q) → MayRun x acknowledged processor w ts → MayTurn (run x acknowledged processor w ts) t → MayRun x acknowledged processor w (ts ++ t ∷ [])
  may-append w [] t m f = (f, tt)
  may-append w (u ∷ ts) t m f = (m.0, may-append (happens x acknowledged processor w u) ts t m.1 f)

  pub new_tasked : (ps : List (Planned V)) (opening : List (Frame M)) → IsOpening opening →
      (let new = new_tasks {Q = Q} {R = R} opening ps in IsTasked x acknowledged processor ps (sides_of new.session.seats) new.accounts (ring_of new.session.seats) opening)
  new_tasked ps opening quiet = record { opening = opening; quiet = quiet; turns = []; may = tt; sides = refl; counted = refl; ring = refl; frames = refl }

  pub run_tasked : (ps : List (Planned V)) (opening : List (Frame M)) → IsOpening opening → (ts : List (TaskTurn M Q)) → (let new = new_tasks {Q = Q} {R = R} opening ps in MayRun x acknowledged processor new ts → (let w = run x acknowledged processor new ts in
      IsTasked x acknowledged processor ps (sides_of w.session.seats) w.accounts (ring_of w.session.seats) w.session.frames))
  run_tasked ps opening quiet ts may = record { opening = opening; quiet = quiet; turns = ts; may = may; sides = refl; counted = refl; ring = refl; frames = refl }

  module _ (ps : List (Planned V)) (ds : List (ℕ × Side M Q R)) (accounts : List (Account Q R)) (ns : Ring V M) (fs : List (Frame M)) (b : IsTasked x acknowledged processor ps ds accounts ns fs)
      (picks : List (Pick Q)) (m : Move M) where
    abbrev now : TaskSession V M Q R
    now = run x acknowledged processor (new_tasks b.opening ps) b.turns

    abbrev turn : TaskTurn M Q
    turn = record { picks = picks; move = m }

    abbrev asked : List (ℕ × Side M Q R)
    asked = sides_next x.speech (length fs) ds (mails_choices accounts picks)

    abbrev counted : List (Account Q R)
    counted = accounts_next x.speech acknowledged (length fs) ds accounts picks

    -- what the master asks, over the session that it has come to
    asked_is : sides_of (seats_next x (length now.session.frames) now.session.seats (mails_choices now.accounts picks)) ≡ asked
    asked_is = nexts_sides x (length now.session.frames) now.session.seats (mails_choices now.accounts picks) ∙ (λ i. sides_next x.speech (length (b.frames i)) (b.sides i) (mails_choices (b.counted i) picks))

    counted_is : accounts_next x.speech acknowledged (length now.session.frames) (sides_of now.session.seats) now.accounts picks ≡ counted
    counted_is = λ i. accounts_next x.speech acknowledged (length (b.frames i)) (b.sides i) (b.counted i) picks

    may_turn : IsFrameOf asked m.sent → AreServed asked counted m.sent → MayTurn now turn
    may_turn f s = (
      frame_from x (seats_next x (length now.session.frames) now.session.seats (mails_choices now.accounts picks)) m.sent (subst (λ l. IsFrameOf l m.sent) (sym asked_is) f),
      subst (λ l. AreServed l (accounts_next x.speech acknowledged (length now.session.frames) (sides_of now.session.seats) now.accounts picks) m.sent) (sym asked_is)
          (subst (λ l. AreServed asked l m.sent) (sym counted_is) s),
    )

    back_is : ring_back (ring_of (seats_next x (length now.session.frames) now.session.seats (mails_choices now.accounts picks))) m.sent m.fate ≡ ring_back ns m.sent m.fate
    back_is = turn_back x now.session (mails_turn now.accounts turn) ∙ ap (λ l. ring_back l m.sent m.fate) b.ring

    -- a master and a ring that meet in a frame stay such a session
    pub tasked_step : IsFrameOf asked m.sent → AreServed asked counted m.sent →
        IsTasked x acknowledged processor ps (sides_after x.speech (length fs) m.sent m.fate (ring_back ns m.sent m.fate) asked) (accounts_after (length fs) asked counted m.fate (ring_back ns m.sent m.fate))
        (ring_steps x processor (ring_after ns m.sent m.fate) m.steps) (fs ++ frame_of ns m ∷ [])
    tasked_step f s =
        let more = run-append (new_tasks b.opening ps) b.turns turn in
        let mails = mails_turn now.accounts turn in
        record {
          opening = b.opening;
          quiet = b.quiet;
          turns = b.turns ++ turn ∷ [];
          may = may-append (new_tasks b.opening ps) b.turns turn b.may (may_turn f s);
          sides =
              ap (λ w. sides_of w.session.seats) more ∙ turn_sides x processor now.session mails
              ∙ (λ i. sides_after x.speech (length (b.frames i)) m.sent m.fate (ring_back (b.ring i) m.sent m.fate) (sides_next x.speech (length (b.frames i)) (b.sides i) (mails_choices (b.counted i) picks)));
          counted = ap (λ w. w.accounts) more ∙ (λ i. accounts_after (length (b.frames i)) (asked_is i) (counted_is i) m.fate (back_is i));
          ring = ap (λ w. ring_of w.session.seats) more ∙ turn_ring x processor now.session mails ∙ ap (λ l. ring_steps x processor (ring_after l m.sent m.fate) m.steps) b.ring;
          frames = ap (λ w. w.session.frames) more ∙ turn_frames x processor now.session mails ∙ (λ i. b.frames i ++ frame_of (b.ring i) m ∷ []);
        }
