-- What the frames of such a serving ask and what its slaves answer, frame by frame, as the count of its frames asks for.
use Rattle.std.specs.Prelude.{◌≡◌, ℕ, suc, Option, List, map, ⊤}
use Rattle.run_frames.specs.of_frame_view.Seen.{seen}
use Rattle.run_frames.specs.of_frame_view.View.{Lens}
use Rattle.run_frames.specs.of_life_runs.Led.{Exchanged}
use Rattle.few_replies.specs.of_link_mails.Body.{Body}
use Rattle.run_frames.specs.of_master_duty.Reply.{Reply}
use Rattle.run_frames.specs.of_master_hand.Spoken.{Asked}
use Rattle.run_frames.specs.Answers.{AllAsk, AllAnswer}
use Rattle.run_frames.specs.Clocks.{Clocked}
use Rattle.run_frames.specs.Runs.{Progress}
use Rattle.run_frames.specs.Waits.{SomeWaits}
use Rattle.run_frames.specs.of_life_runs.Served.{Serves, ServedTurn}
use Rattle.served_places.specs.Toured.{IsServedToured, served_back, still_served, waits_served}

module _ {lens : ℕ → Lens} {recover retry slowest : ℕ} {first : List Serves} where
  -- EACH FRAME THAT CAME BACK asked by the inward half first
  abbrev pub ServedAsks : {fs : List Exchanged} {again : Option (List ℕ)} {missed : ℕ} {ws : List Serves} {p : Progress} {cs : List (Clocked Body Asked Reply)} → IsServedToured lens recover retry slowest first fs again missed ws p cs → Type 0
  ServedAsks IsServedToured.start = ⊤
  ServedAsks (IsServedToured.asks fs again missed ws p cs place k run may) = ServedAsks run
  ServedAsks (IsServedToured.lost fs again missed ws p cs f vs after ps run frame fate visit) = ServedAsks run
  ServedAsks (IsServedToured.opening fs again missed ws p cs f vs ps run frame fate under visit) = AllAsk (seen lens f.sent) (map (λ (v : ServedTurn). v.turn) vs) × ServedAsks run
  ServedAsks (IsServedToured.round fs again missed ws p cs f vs ps run frame fate over visit) = AllAsk (seen lens f.sent) (map (λ (v : ServedTurn). v.turn) vs) × ServedAsks run
  ServedAsks (IsServedToured.enters fs again missed ws p cs f vs ps run frame fate over visit nothing) = AllAsk (seen lens f.sent) (map (λ (v : ServedTurn). v.turn) vs) × ServedAsks run

  -- and each slave answered by it what awaits a step
  abbrev pub ServedAnswers : {fs : List Exchanged} {again : Option (List ℕ)} {missed : ℕ} {ws : List Serves} {p : Progress} {cs : List (Clocked Body Asked Reply)} → IsServedToured lens recover retry slowest first fs again missed ws p cs → Type 0
  ServedAnswers IsServedToured.start = ⊤
  ServedAnswers (IsServedToured.asks fs again missed ws p cs place k run may) = ServedAnswers run
  ServedAnswers (IsServedToured.lost fs again missed ws p cs f vs after ps run frame fate visit) = ServedAnswers run
  ServedAnswers (IsServedToured.opening fs again missed ws p cs f vs ps run frame fate under visit) = AllAnswer (seen lens f.back) cs (map (λ (v : ServedTurn). v.turn) vs) × ServedAnswers run
  ServedAnswers (IsServedToured.round fs again missed ws p cs f vs ps run frame fate over visit) = AllAnswer (seen lens f.back) cs (map (λ (v : ServedTurn). v.turn) vs) × ServedAnswers run
  ServedAnswers (IsServedToured.enters fs again missed ws p cs f vs ps run frame fate over visit nothing) = AllAnswer (seen lens f.back) cs (map (λ (v : ServedTurn). v.turn) vs) × ServedAnswers run

  -- BEHIND EACH FRAME THAT GAINED NOTHING, with nothing to repair, some slave waits yet, unless it counts as lost
  abbrev pub ServedWaits : {fs : List Exchanged} {again : Option (List ℕ)} {missed : ℕ} {ws : List Serves} {p : Progress} {cs : List (Clocked Body Asked Reply)} → IsServedToured lens recover retry slowest first fs again missed ws p cs → Type 0
  ServedWaits IsServedToured.start = ⊤
  ServedWaits (IsServedToured.asks fs again missed ws p cs place k run may) = ServedWaits run
  ServedWaits (IsServedToured.lost fs again missed ws p cs f vs after ps run frame fate visit) = ServedWaits run
  ServedWaits (IsServedToured.opening fs again missed ws p cs f vs ps run frame fate under visit) = ServedWaits run
  ServedWaits (IsServedToured.round fs again missed ws p cs f vs ps run frame fate over visit) =
      (still_served lens recover retry slowest p f vs cs ≡ suc p.still → SomeWaits (served_back lens recover retry slowest p.frames f vs cs) (waits_served lens recover retry slowest p f vs cs)) × ServedWaits run
  ServedWaits (IsServedToured.enters fs again missed ws p cs f vs ps run frame fate over visit nothing) = ServedWaits run
