-- A mail that is passed on awaits no reply where nothing is left of its slave.
use Rattle.std.proofs.Common.{◌≡◌, ℕ, Bool, Some, List}
use Rattle.idle_slaves.specs.of_slave_model.Moments.{HasNothing}
use Rattle.idle_slaves.proofs.of_slave_model.Laws.{heard}
use Rattle.idle_slaves.specs.of_exchange_model.Exchange.{Exchange, IsLawful}
use Rattle.idle_slaves.specs.of_life_model.Eras.{EraIs}
use Rattle.idle_slaves.specs.of_life_model.Lives.{Era, Spot}
use Rattle.idle_slaves.specs.of_slave_model.Waits.{NeverWaits}
use Rattle.served_rings.specs.of_few_replies.Heard.{EraPasses}
use Rattle.served_rings.proofs.of_few_replies.Heard.{ends}
use Rattle.idle_slaves.specs.of_segment_model.Ends.{Passing}
use Rattle.idle_slaves.specs.of_segment_model.Record.{Frame}
use Rattle.idle_slaves.specs.of_segment_model.Slaves.{Processor, Registers, Slave}
use Rattle.seen_slaves.specs.Last.{LastPasses, TellsLast}
use Rattle.idle_slaves.specs.of_state_model.Stated.{Stated, IsStated}
use Rattle.idle_slaves.specs.of_state_model.States.{Table}

pub none_awaited : {V A M Q R : Type 0} (x : Exchange V A M Q R) (s : Stated V A Q) (processor : Processor V) (table : ℕ → Table) (spot : Spot) (e : Era M Q R) (opened last : ℕ) (fs : List (Frame M)) (v : V) (r : Registers) (slave : Slave V M) (more : M → Bool) (passed : Q → Bool) →
    IsLawful x → IsStated x s → NeverWaits x → EraIs x s processor table spot e opened last fs v r slave → HasNothing x.speech e slave → EraPasses x.speech more passed e → LastPasses e →
    TellsLast x more passed e → e.passing ≡ Some Passing.Answered → ⊥
none_awaited x s processor table spot e opened last fs v r slave more passed law stated never is nothing passes lasts tells answered =
    let p = passes Passing.Answered answered in
    let h = heard x s processor table spot e opened last fs v r slave law stated is never nothing (lasts Passing.Answered answered) p.row p.is in
    ends x more p.row.service (tells p.row p.is p.passes) h.server h.ready p.row.heard h.heard p.heard
