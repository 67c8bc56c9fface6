-- Registers, accounts and the record of a session: a slave that answers to its station keeps its invariant by a choice, a frame and a step.
use Rattle.std.proofs.Common.{◌≡◌, ℕ, Bool, List, [], ◌∷◌, ◌++◌, length, refl, ap, sym, ◌∙◌, subst}
use Rattle.std.specs.Prelude.{⊤}
use Rattle.segment_model.specs.of_exchange_model.Exchange.{Exchange}
use Rattle.segment_model.specs.Slaves.{Processor, Datagram, slave_after, frame_after}
use Rattle.segment_model.specs.Record.{Frame, frame_news, back_news}
use Rattle.segment_model.specs.Seats.{Seat, Planned, seat_next, seat_back, side_lost, seat_steps, new_seats}
use Rattle.segment_model.proofs.Answers.{kept_of}
use Rattle.state_model.specs.States
use Rattle.state_model.specs.States.{Table}
use Rattle.state_model.specs.Promises.{statuses}
use Rattle.state_model.specs.Stated.{Stated}
use Rattle.state_model.specs.Accounts.{Account, Pick, mails_choice, account_next, account_back}
use Rattle.state_model.specs.Tasks.{Answers, IsBrought, CarriesWords, AllBrought, new_accounts}
use Rattle.state_model.proofs.Rings.{SamePlace, same_place, place_on}
use Rattle.state_model.proofs.Carries.{carry_place}
use Rattle.state_model.proofs.Stately.{Stately, next_stately, back_stately, lost_stately, missed_stately, step_stately, new_stately, statuses_frame}
use Rattle.state_model.proofs.Walks.{EachOne, IsPlaced, SeatMet}

module _ {V A M Q R : Type 0} (x : Exchange V A M Q R) (stated : Stated V A Q) (processor : Processor V) (table : ℕ → Table) where
  -- THE INVARIANT of one slave of a plan
  pub record IsStately (fs : List (Frame M)) (p : Planned V) (s : Seat V M Q R) (a : Account Q R) : Type 0 where
    pub carries : CarriesWords processor (table p.station) p
    pub brought : Answers p → IsBrought x stated table p
    pub placed : IsPlaced p s a
    pub stately : (answers : Answers p) → Stately (table p.station) p.registers.state (brought answers).sits s.station fs s.slave.registers a

  -- a choice
  pub next_is : (acknowledged : Q → Bool) (fs : List (Frame M)) (p : Planned V) (s : Seat V M Q R) (a : Account Q R) (pick : Pick Q) → IsStately fs p s a →
      IsStately fs p (seat_next x (length fs) s (mails_choice a pick)) (account_next x.speech acknowledged (length fs) s.side a pick)
  next_is acknowledged fs p s a pick k = record {
    carries = k.carries;
    brought = k.brought;
    placed = record { station = k.placed.station; place = k.placed.place };
    stately = λ answers. next_stately (table p.station) p.registers.state (k.brought answers).sits s.station x acknowledged fs s.side s.slave.registers a pick (k.stately answers);
  }

  -- a frame that came back
  pub back_is : (fs : List (Frame M)) (f : Frame M) (p : Planned V) (s : Seat V M Q R) (a : Account Q R) (ds : List (Datagram M)) → IsPlaced p s a → SeatMet (length fs) p s a ds f.back → ⊤ → IsStately fs p s a →
      IsStately (fs ++ f ∷ []) p (seat_back x (length fs) s ds f.back) (account_back s.station (length fs) a f.back)
  back_is fs f p s a ds placed met now k = record {
    carries = k.carries;
    brought = k.brought;
    placed = record { station = placed.station; place = place_on p.registers s.slave.registers (slave_after s.station s.slave ds).registers placed.place met.place };
    stately = λ answers. back_stately (table p.station) p.registers.state (k.brought answers).sits s.station fs f s.slave.registers (slave_after s.station s.slave ds).registers s.slave.node.out.box a (account_back s.station (length fs) a f.back) _
        (statuses_frame s.station fs f) (met.served answers (kept_of s.station fs).heard) (k.stately answers);
  }

  -- a lost one
  none_lost : (station : ℕ) (fs : List (Frame M)) (f : Frame M) → f.back ≡ [] → statuses (frame_news station (kept_of station fs) f) ≡ []
  none_lost station fs f e = statuses_frame station fs f ∙ ap (λ ds. statuses (back_news station (kept_of station fs).heard ds)) e

  pub lost_is : (fs : List (Frame M)) (f : Frame M) → f.back ≡ [] → (p : Planned V) (s : Seat V M Q R) (a : Account Q R) (ds : List (Datagram M)) → IsPlaced p s a → SeatMet (length fs) p s a ds (frame_after s.station s.slave ds) → ⊤ → IsStately fs p s a →
      IsStately (fs ++ f ∷ []) p (record s { side = side_lost s.station f.sent s.side; slave = slave_after s.station s.slave ds }) a
  lost_is fs f e p s a ds placed met now k = record {
    carries = k.carries;
    brought = k.brought;
    placed = record { station = placed.station; place = place_on p.registers s.slave.registers (slave_after s.station s.slave ds).registers placed.place met.place };
    stately = λ answers. lost_stately (table p.station) p.registers.state (k.brought answers).sits s.station fs f s.slave.registers (slave_after s.station s.slave ds).registers s.slave.node.out.box a _ _
        (none_lost s.station fs f e) (met.served answers 0) (k.stately answers);
  }

  pub missed_is : (fs : List (Frame M)) (f : Frame M) → f.back ≡ [] → (p : Planned V) (s : Seat V M Q R) (a : Account Q R) → IsPlaced p s a → ⊤ → IsStately fs p s a → IsStately (fs ++ f ∷ []) p (record s { side = side_lost s.station f.sent s.side }) a
  missed_is fs f e p s a placed now k = record {
    carries = k.carries;
    brought = k.brought;
    placed = record { station = placed.station; place = placed.place };
    stately = λ answers. missed_stately (table p.station) p.registers.state (k.brought answers).sits s.station fs f s.slave.registers a (none_lost s.station fs f e) (k.stately answers);
  }

  -- a step of the processor
  pub step_is : (fs : List (Frame M)) (p : Planned V) (s : Seat V M Q R) (a : Account Q R) → IsStately fs p s a → IsStately fs p (seat_steps x processor s) a
  step_is fs p s a k =
      let r = s.slave.registers in
      let same : processor.carry r ≡ States.carry (table p.station) r = k.carries r k.placed.place.station k.placed.place.first k.placed.place.second in
      record {
        carries = k.carries;
        brought = k.brought;
        placed = record { station = k.placed.station; place = place_on p.registers r (processor.carry r) k.placed.place (subst (SamePlace r) (sym same) (carry_place (table p.station) r)) };
        stately = λ answers. subst (λ n. Stately (table p.station) p.registers.state (k.brought answers).sits s.station fs n a) (sym same) (step_stately (table p.station) p.registers.state (k.brought answers).sits s.station fs r a (k.stately answers));
      }

  -- AT THE END OF BRING-UP
  pub new_is : (opening : List (Frame M)) (ps : List (Planned V)) → AllBrought x stated processor table ps → EachOne (IsStately opening) ps (new_seats ps) (new_accounts ps)
  new_is opening [] brought = tt
  new_is opening (p ∷ ps) brought = (
    record {
      carries = brought.0.0;
      brought = brought.0.1;
      placed = record { station = refl; place = same_place p.registers };
      stately = λ answers. new_stately (table p.station) p.registers.state (brought.0.1 answers).sits p.station opening p.registers refl (brought.0.1 answers).control (brought.0.1 answers).refused;
    },
    new_is opening ps brought.1,
  )
