-- A run whose frames are visits of one tour is one whose frames count.
use Rattle.std.proofs.Common.{◌≡◌, ℕ, Option, None, List, [], ◌∷◌, ◌++◌, length, sym, subst}
use Rattle.std.specs.Prelude.{nat_lt}
use Rattle.life_runs.specs.of_frame_view.Seen.{seen}
use Rattle.life_runs.specs.of_frame_view.View.{Lens}
use Rattle.life_runs.specs.Led.{Exchanged, Leads, Turn, IsLedFrame, speech_at, is_passed, gives_up_at}
use Rattle.life_runs.specs.of_link_mails.Body.{Body}
use Rattle.life_runs.specs.of_master_duty.Reply.{Reply}
use Rattle.life_runs.specs.of_master_hand.Spoken.{Asked, acknowledged, is_followed}
use Rattle.run_frames.specs.Answers.{AllAsk, AllAnswer, AllReturned}
use Rattle.life_runs.specs.of_segment_model.Returned.{Returns}
use Rattle.life_runs.specs.of_segment_ring.declared.wire.Fate.TheVariants.{Pass}
use Rattle.run_frames.specs.Begins.{AllNew}
use Rattle.run_frames.specs.Brings.{AllBring}
use Rattle.run_frames.specs.Clocks.{Clocked}
use Rattle.run_frames.specs.Goes.{AllUnder, AllClocked}
use Rattle.run_frames.specs.Led.{AreLed, unders, first_clocked, IsTallied}
use Rattle.run_frames.specs.Runs.{Progress}
use Rattle.run_frames.specs.Toured.{IsToured, AskIn, AnswerIn, WaitIn}
use Rattle.run_frames.specs.Tours.{last_lost}
use Rattle.run_frames.proofs.Answering.{all_bring}
use Rattle.run_frames.proofs.Leading.{SeenIs, all_under, led_view}
use Rattle.run_frames.proofs.Tallying.{Known, tallied}
use Rattle.run_frames.proofs.Touring.{AgainOf}
use Rattle.run_frames.proofs.Visiting.{visit_again, visit_carries, visit_rounds}

abbrev Slave : Type 0
Slave = Clocked Body Asked Reply

-- one frame more
pub front_returned : (lens : ℕ → Lens) (fs : List Exchanged) (f : Exchanged) → AllReturned lens (fs ++ f ∷ []) → AllReturned lens fs
front_returned lens [] f r = tt
front_returned lens (e ∷ fs) f r = (r.0, front_returned lens fs f r.1)

pub last_returned : (lens : ℕ → Lens) (fs : List Exchanged) (f : Exchanged) → AllReturned lens (fs ++ f ∷ []) → f.fate ≡ Pass → Returns (seen lens f.sent) (seen lens f.back)
last_returned lens [] f r = r.0
last_returned lens (e ∷ fs) f r = last_returned lens fs f r.1

module _ (seen_is : SeenIs) (lens : ℕ → Lens) (recover retry slowest : ℕ) (first : List Leads) (paces : List ℕ) (begins : AllNew (first_clocked first paces) × AllClocked slowest (first_clocked first paces) × AreLed first (first_clocked first paces)) where
  -- what holds behind each frame
  pub record Tours (fs : List Exchanged) (again : Option (List ℕ)) (missed : ℕ) (as' : List Leads) (p : Progress) (cs : List Slave) : Type 0 where
    pub tallied : IsTallied lens recover retry slowest first paces fs missed as' p cs
    pub same : AgainOf again (length cs) p.opened p.last cs

  abbrev Lists : Progress → List Slave → Exchanged → List Turn → Type 0
  Lists p cs f us = AllUnder (speech_at lens) acknowledged is_followed is_passed p.frames (seen lens f.sent) cs (unders (seen lens f.back) us)

  under_all : (fs : List Exchanged) (missed : ℕ) (as' : List Leads) (p : Progress) (cs : List Slave) (f : Exchanged) (us : List Turn) → Known lens recover retry slowest first paces fs missed as' p cs → IsLedFrame lens (length fs) f.sent as' us → Lists p cs f us
  under_all fs missed as' p cs f us k l =
      let l' = subst (λ n. IsLedFrame lens n f.sent as' us) (sym k.frames) l in
      all_under seen_is lens recover retry p.frames f l'.datagrams (seen lens f.back) cs as' us k.slaves (led_view seen_is lens recover retry p.frames f l'.datagrams l'.frame) l'.each

  -- what came back brought each slave what its access asks for
  brings : (fs : List Exchanged) (missed : ℕ) (as' : List Leads) (p : Progress) (cs : List Slave) (f : Exchanged) (us : List Turn) → Known lens recover retry slowest first paces fs missed as' p cs → IsLedFrame lens (length fs) f.sent as' us →
      Returns (seen lens f.sent) (seen lens f.back) → AllAsk (seen lens f.sent) us → AllAnswer (seen lens f.back) cs us → AllBring (seen lens f.back) cs (unders (seen lens f.back) us)
  brings fs missed as' p cs f us k l r asks answers =
      all_bring lens (length fs) l.datagrams (seen lens f.sent) (seen lens f.back) (led_view seen_is lens recover retry (length fs) f l.datagrams l.frame) r cs as' us k.slaves l.each asks answers

  pub toured : (fs : List Exchanged) (again : Option (List ℕ)) (missed : ℕ) (as' : List Leads) (p : Progress) (cs : List Slave) → (t : IsToured lens recover retry slowest first paces fs again missed as' p cs) → AllReturned lens fs → AskIn t → AnswerIn t → WaitIn t → Tours fs again missed as' p cs
  toured fs again missed as' p cs IsToured.start back asks answers waits = record { tallied = IsTallied.start; same = tt }
  toured gs again' missed' bs q ds (IsToured.lost fs again missed as' p cs f us after ps r l fate v) back asks answers waits =
      let h = toured fs again missed as' p cs r (front_returned lens fs f back) asks answers waits in
      let k = tallied seen_is lens recover retry slowest first paces begins fs missed as' p cs h.tallied in
      let gives = gives_up_at lens recover retry missed in
      record {
        tallied = IsTallied.lost fs missed as' p cs f us after (last_lost (nat_lt p.opened (length cs)) gives p.last ps) h.tallied l fate (visit_carries (speech_at lens) acknowledged is_followed is_passed p cs (unders (seen lens f.back) us) (seen lens f.sent) again ps (under_all fs missed as' p cs f us k l) h.same v);
        same = visit_again (speech_at lens) acknowledged is_followed is_passed p cs (unders (seen lens f.back) us) (seen lens f.sent) again ps (under_all fs missed as' p cs f us k l) h.same v recover slowest (first_clocked first paces) k.run gives;
      }
  toured gs again' missed' bs q ds (IsToured.opening fs again missed as' p cs f us ps r l fate under v) back asks answers waits =
      let h = toured fs again missed as' p cs r (front_returned lens fs f back) asks.1 answers.1 waits in
      let k = tallied seen_is lens recover retry slowest first paces begins fs missed as' p cs h.tallied in
      record {
        tallied = IsTallied.opening fs missed as' p cs f us None h.tallied l fate (brings fs missed as' p cs f us k l (last_returned lens fs f back fate) asks.0 answers.0) under (visit_carries (speech_at lens) acknowledged is_followed is_passed p cs (unders (seen lens f.back) us) (seen lens f.sent) again ps (under_all fs missed as' p cs f us k l) h.same v under);
        same = tt;
      }
  toured gs again' missed' bs q ds (IsToured.round fs again missed as' p cs f us ps r l fate over v) back asks answers waits =
      let h = toured fs again missed as' p cs r (front_returned lens fs f back) asks.1 answers.1 waits.1 in
      let k = tallied seen_is lens recover retry slowest first paces begins fs missed as' p cs h.tallied in
      record {
        tallied = IsTallied.round fs missed as' p cs f us ps h.tallied l fate (brings fs missed as' p cs f us k l (last_returned lens fs f back fate) asks.0 answers.0) over (visit_rounds (speech_at lens) acknowledged is_followed is_passed p cs (unders (seen lens f.back) us) (seen lens f.sent) again ps (under_all fs missed as' p cs f us k l) h.same v over) waits.0;
        same = tt;
      }
  toured gs again' missed' bs q ds (IsToured.enters fs again missed as' p cs f us ps r l fate over v nothing) back asks answers waits =
      let h = toured fs again missed as' p cs r (front_returned lens fs f back) asks.1 answers.1 waits in
      let k = tallied seen_is lens recover retry slowest first paces begins fs missed as' p cs h.tallied in
      record {
        tallied = IsTallied.enters fs missed as' p cs f us ps h.tallied l fate (brings fs missed as' p cs f us k l (last_returned lens fs f back fate) asks.0 answers.0) over (visit_rounds (speech_at lens) acknowledged is_followed is_passed p cs (unders (seen lens f.back) us) (seen lens f.sent) again ps (under_all fs missed as' p cs f us k l) h.same v over) nothing;
        same = tt;
      }
