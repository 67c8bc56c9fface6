use Rattle.std.proofs.Common.{◌≡◌, ◌≤◌, ◌+◌, ℕ, List, length, vec_len}
use Rattle.std.specs.Prelude.{map}
use Rattle.life_runs.specs.of_datagrams.Datagram as Raw
use Rattle.life_runs.specs.of_datagrams.Frame.{IsBegun}
use Rattle.life_runs.specs.of_frame_view.View.{Lens}
use Rattle.life_runs.specs.of_frame_view.Shares.{AreDistinct}
use Rattle.life_runs.specs.Led.{Leads}
use Rattle.master_node.specs.Filling.{IsEmpty}
use Rattle.master_node.specs.Happened.{Happens}
use Rattle.master_node.specs.Kept.{TourOn}
use Rattle.master_node.specs.Joined.{JoinsKept}
use Rattle.master_node.specs.Eager.{EagerOn}
use Rattle.master_node.specs.Shows.{lived_of}
use Rattle.master_node.proofs.Filleds.{Fills}
use Rattle.master_node.specs.Toured.{IsBare}
use Rattle.master_node.proofs.Toureds.{Visiting}
use Rattle.master_node.specs.Answered.{AnswersOn}
use Rattle.master_node.specs.Listing.{Before, events_before}
use Rattle.master_node.specs.Made.{Makes}
use Rattle.life_runs.specs.Served.{Serves}
use Rattle.master_node.specs.Passes.{BeginsFrame, IsPassing}
use Rattle.master_node.specs.Serving.{run_lead}
use Rattle.master_node.proofs.Roundings.{Rounds}
use Rattle.master_node.proofs.node.MasterNode.fill.Given as goal

abbrev pub invariant-loop : goal.invariant-loop
invariant-loop l =
    ((ds : List Raw.Datagram) × IsBegun l.into.items ds) × (vec_len l.self.posts ≡ vec_len l.initial.self.posts) × TourOn l.initial.self l.self
    × ((lens : ℕ → Lens) (recover made : ℕ) (from : Before) (as' : List Leads) → AreDistinct (map lived_of as') → IsEmpty lens recover made from l.initial.self l.initial.into.items as' → Fills lens recover made from as' l.counter l.self l.into.items)
    × JoinsKept l.initial.self l.self
    × (IsBare l.initial.self → length l.initial.into.items ≡ 16 → Visiting l.into.items l.initial.self l.self × (l.self.tour.count ≡ l.counter))
    × Happens l.counter l.initial.self.lan l.self.lan × Makes l.initial.self.lan l.self.lan
    × (IsBare l.initial.self → length l.initial.into.items ≡ 16 → EagerOn l.initial.self l.self)
    × (l.self.list.count ≤ l.initial.self.list.count + l.counter)
    × ((lens : ℕ → Lens) (recover made : ℕ) (from : Before) (ws : List Serves) → AreDistinct (map (λ w. lived_of (run_lead w)) ws) → ((left : List ℕ) → IsPassing lens recover made from left l.initial.self l.initial.into.items ws) → BeginsFrame l.initial.self l.initial.into.items (map run_lead ws) →
    Rounds (map run_lead ws) (λ left m octets. IsPassing lens recover made from left m octets ws) l.counter l.self l.into.items)
    × (events_before l.self ≡ events_before l.initial.self)
    × (l.initial.self.list.count ≤ 81 → AnswersOn l.initial.self l.self)
