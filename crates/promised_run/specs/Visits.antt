-- THE VISITS OF A BOOK: which slaves each of its frames carries, and in which order.
use Rattle.std.specs.Prelude.{◌-◌, ℕ, nat_le, if◌then◌else◌, List, [], ◌∷◌, length, map, drop, ⊤}
use Rattle.gateway_run.specs.Served.{HasAccount}
use Rattle.seen_slaves.specs.of_frame_view.Seen.{seen}
use Rattle.run_promises.specs.of_life_model.Tours.{Member, round}
use Rattle.run_promises.specs.of_life_runs.First.{lens_of, first_leads}
use Rattle.run_promises.specs.of_life_runs.Led.{Exchanged, Leads}
use Rattle.run_promises.specs.of_packets_heard.Served.{IsTourServed}
use Rattle.gateway_run.specs.of_run_book.declared.book.Book.{Book}
use Rattle.gateway_run.specs.of_run_book.declared.book.Ending.{Ending}
use Rattle.run_promises.specs.of_master_node.Serving.{run_lead}
use Rattle.run_promises.specs.of_master_node.Shows.{is_live_lead}
use Rattle.run_promises.specs.of_master_node.Wants.{gave_of}
use Rattle.run_promises.specs.of_master_tour.Sizes.{frame_size}
use Rattle.run_promises.specs.of_master_tour.Toured.{Tour}
use Rattle.run_promises.specs.of_segment_model.Visits
use Rattle.run_promises.specs.of_segment_model.Visits.{Stop, carried}
use Rattle.run_promises.specs.of_segment_plan.declared.plan.Scenario.{Scenario}
use Rattle.run_promises.specs.of_segment_plan.declared.slave.SlaveSpec.{SlaveSpec}
use Rattle.gateway_run.specs.of_run_record.ServedLed.{ServedTouredTo}
use Rattle.run_promises.specs.of_packets_heard.Toured.{IsToured, stations_of}
use Rattle.run_promises.specs.of_packets_heard.Visits.{last_station}
use Rattle.run_promises.specs.of_life_runs.Served.{Serves}

-- a slave of a plan as a stop of its tour
abbrev pub stop_of : SlaveSpec → Stop
stop_of s = record { station = s.station; state = s.start; area = if nat_le s.out_len s.in_len then s.in_len else s.out_len }

-- all of them, in the order of the ring
abbrev pub stops_of : Scenario → List Stop
stops_of plan = map (λ s. stop_of s) plan.slaves

-- the members of the tour: each slave, with how often it may still be taken up again, and whether it is live, by its life
abbrev pub members_of : ℕ → List SlaveSpec → List Leads → List Member
members_of recover [] as' = []
members_of recover (s ∷ ss) [] = []
members_of recover (s ∷ ss) (a ∷ as') = record { stop = stop_of s; spare = recover - length (gave_of a); live = is_live_lead a } ∷ members_of recover ss as'

-- a round of the live ones: from the one behind the one carried last, in the order of the ring
abbrev pub round_next : Scenario → Tour → List Leads → List Stop
round_next plan t as' = round (stops_of plan) (last_station (stops_of plan) t.last) (members_of plan.recover plan.slaves as')

-- A FRAME CARRIES THE SLAVES OF ITS VISIT, datagram by datagram, and no other: those of the lost frame before it, all again; else the one whose first bring-up
-- goes on; else the first of a round, one at least, and none is left out for which the length in its header leaves room, be the datagram as long as the larger
-- mailbox
abbrev pub IsVisit : Scenario → Tour → List Leads → Exchanged → Type 0
IsVisit plan t as' f = Visits.IsVisit (frame_size f.sent) (stations_of (stops_of plan) t.again) (drop t.opened (stops_of plan)) (round_next plan t as') (carried (stops_of plan) (seen (lens_of plan.slaves) f.sent))

-- THE FRAMES OF A TOUR are, each by the tour and the lives before it
abbrev pub AllVisit : (plan : Scenario) {fs : List Exchanged} {t : Tour} {as' : List Leads} → IsToured (lens_of plan.slaves) plan.recover plan.retry (first_leads plan) fs t as' → Type 0
AllVisit plan IsToured.start = ⊤
AllVisit plan (IsToured.on fs t as' f us visit before led of) = AllVisit plan before × IsVisit plan t as' f

-- and those of a serving in the same way: a mail that is asked between them changes nothing of the tour
abbrev pub AllServedVisit : (plan : Scenario) {fs : List Exchanged} {t : Tour} {ws : List Serves} → ServedTouredTo plan fs t ws → Type 0
AllServedVisit plan IsTourServed.start = ⊤
AllServedVisit plan (IsTourServed.asks fs t ws place k before may) = AllServedVisit plan before
AllServedVisit plan (IsTourServed.on fs t ws f vs visit before led of) = AllServedVisit plan before × IsVisit plan t (map run_lead ws) f

-- by each account of its book
abbrev pub IsServedVisited : Scenario → ℕ → Book → Type 0
IsServedVisited plan count book = (ending : Ending) (a : HasAccount plan count book ending) → AllServedVisit plan a.answers.serving.leading.toured
