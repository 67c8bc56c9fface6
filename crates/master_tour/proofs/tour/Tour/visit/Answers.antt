use Rattle.std.proofs.Common.{◌≡◌, ℕ, List, [], ◌∷◌, ◌++◌, true, false, sym, subst, ap, ◌∙◌, ◌+◌, ◌==◌, None, Some}
use Rattle.std.specs.Prelude.{Bool, is_some, if◌then◌else◌}
use Rattle.master_side.specs.of_datagrams.Datagram as Raw
use Rattle.master_side.specs.Recall.{recall_by}
use Rattle.master_tour.specs.Recalls.{TakesUp, BeginsAll}
use Rattle.master_side.specs.of_datagrams.Frame.{IsBegun}
use Rattle.master_side.specs.of_exchange_model.Exchange.{Speech}
use Rattle.master_side.specs.of_link_mails.Body.{Body}
use Rattle.master_side.specs.of_life_model.Lives.{Life, Spot, life_next}
use Rattle.master_side.specs.of_frame_view.View.{Lens, datagram_seen}
use Rattle.master_side.specs.of_mailbox_master.Any.{in_area_len}
use Rattle.master_side.specs.of_master_duty.Reply.{Reply}
use Rattle.master_side.specs.Shown.{SideShows, wish_begun, takes_ready}
use Rattle.master_tour.specs.Walks.{StepsAt}
use Rattle.master_tour.specs.Stands.{StopShows, IsSpot, stand_gram, StandMeant, NextShows, Counts}
use Rattle.master_side.specs.Sent.{SameLink}
use Rattle.master_tour.specs.Made.{IsClearFor, ComesAt}
use Rattle.master_side.proofs.of_frame_view.Frames.{apart_back}
use Rattle.std.proofs.lemmas.List.{get_or-set_same}
use Rattle.master_tour.specs.Goes.{is_live}
use Rattle.master_tour.proofs.Goes.{holds_here}
use Rattle.master_tour.proofs.Orders.{counted_carried}
use Rattle.master_tour.proofs.Steps.{frame_grows}
use Rattle.master_tour.proofs.Mades.{made_visit, made_other, grown_of}
use Rattle.master_tour.proofs.Walks.{steps_set, at_place}
use Rattle.master_tour.specs.Rooms.{Visits}
use Rattle.master_tour.specs.Passing.{StandPassing}
use Rattle.master_tour.specs.declared.stop.Stand.{Stand}
use Rattle.master_tour.specs.Counting.{ReadStays}
use Rattle.master_tour.specs.Frees.{stop_begins}
use Rattle.master_tour.specs.First.{LacksFirst}
use Rattle.master_tour.proofs.tour.Tour.visit.Goals as goal

pub returns-clause-lives : goal.returns-clause-lives
returns-clause-lives g c =
    subst (λ z. StepsAt (λ s t. ((x : Speech Body g.H.Hand.Asked Reply) (more : Body → Bool) (passed : g.H.Hand.Asked → Bool) (made recover : ℕ) (spot : Spot) (lens : ℕ → Lens) (l : Life Body g.H.Hand.Asked Reply) →
    (lens s.side.station).out ≡ s.side.out.len → (lens s.side.station).back ≡ in_area_len s.side.inn → IsSpot spot s.side.station s.place s.start → (s.stand ≡ Stand.Open → is_some l.era.passing ≡ is_some s.side.passing) → StopShows (λ d a. SideShows (g.H.Hand.shows s.side.hand x) s.side.out s.side.inn s.side.fresh s.side.duty d a) recover spot s.stand s.spare l →
    NextShows x g.H.Hand.acknowledged more passed made l (wish_begun c.visit-began.result c.args.wish (g.H.Hand.ready s.side.hand)) (λ n. StopShows (λ d a. SideShows (g.H.Hand.shows t.side.hand x) t.side.out t.side.inn t.side.fresh t.side.duty d a) recover spot t.stand t.spare n ×
    (t.under ≡ true → StandMeant lens t.side.station c.args.index t.side.carried t.stand n (datagram_seen lens (stand_gram t.side.station c.args.index t.stand t.side.out t.side.inn t.side.duty t.side.carried))))) × ((ds : List Raw.Datagram) → IsBegun c.args.frame.now.items ds → t.under ≡ true → IsBegun c.visit-began.new.frame.items (ds ++ (stand_gram t.side.station c.args.index t.stand t.side.out t.side.inn t.side.duty t.side.carried) ∷ [])) × (t.under ≡ false → c.visit-began.new.frame.items ≡ c.args.frame.now.items) × (t.under ≡ true → t.at ≡ c.args.self.now.count) × (t.place ≡ s.place) × (t.start ≡ s.start)) c.args.place c.args.self.now.stops.items z.items) (sym c.carry_where.ensures.stops)
    (steps_set (λ s t. ((x : Speech Body g.H.Hand.Asked Reply) (more : Body → Bool) (passed : g.H.Hand.Asked → Bool) (made recover : ℕ) (spot : Spot) (lens : ℕ → Lens) (l : Life Body g.H.Hand.Asked Reply) →
    (lens s.side.station).out ≡ s.side.out.len → (lens s.side.station).back ≡ in_area_len s.side.inn → IsSpot spot s.side.station s.place s.start → (s.stand ≡ Stand.Open → is_some l.era.passing ≡ is_some s.side.passing) → StopShows (λ d a. SideShows (g.H.Hand.shows s.side.hand x) s.side.out s.side.inn s.side.fresh s.side.duty d a) recover spot s.stand s.spare l →
    NextShows x g.H.Hand.acknowledged more passed made l (wish_begun c.visit-began.result c.args.wish (g.H.Hand.ready s.side.hand)) (λ n. StopShows (λ d a. SideShows (g.H.Hand.shows t.side.hand x) t.side.out t.side.inn t.side.fresh t.side.duty d a) recover spot t.stand t.spare n ×
    (t.under ≡ true → StandMeant lens t.side.station c.args.index t.side.carried t.stand n (datagram_seen lens (stand_gram t.side.station c.args.index t.stand t.side.out t.side.inn t.side.duty t.side.carried))))) × ((ds : List Raw.Datagram) → IsBegun c.args.frame.now.items ds → t.under ≡ true → IsBegun c.visit-began.new.frame.items (ds ++ (stand_gram t.side.station c.args.index t.stand t.side.out t.side.inn t.side.duty t.side.carried) ∷ [])) × (t.under ≡ false → c.visit-began.new.frame.items ≡ c.args.frame.now.items) × (t.under ≡ true → t.at ≡ c.args.self.now.count) × (t.place ≡ s.place) × (t.start ≡ s.start)) c.args.place c.args.self.now.stops.items c.index_mut.result.now c.visit-began.new.self c.requires.inside c.index_mut.ensures.value
    ((λ x more passed made recover spot lens l a b p w h. c.visit-began.ensures.lives x more passed made recover spot lens l a b p w h), c.visit-began.ensures.begun, c.visit-began.ensures.full, c.visit-began.ensures.at, c.visit-began.ensures.kept.0, c.visit-began.ensures.kept.1))

pub returns-clause-step : goal.returns-clause-step
returns-clause-step g c =
    let same = c.index.ensures ∙ get_or-set_same c.args.self.now.stops.items c.args.place c.visit-began.new.self c.index.result.now c.requires.inside in
    subst (λ z. StepsAt (λ s t. SameLink s.side.out s.side.inn s.side.station s.side.area t.side.out t.side.inn t.side.station t.side.area × (t.stand ≡ s.stand) × (t.under ≡ true → IsClearFor t.stand t.side.carried t.side.inn) × (t.under ≡ true → c.carry_where.new.self.count ≡ c.args.self.now.count + 1) × (t.under ≡ false → c.carry_where.new.self.count ≡ c.args.self.now.count)) c.args.place c.args.self.now.stops.items z.items) (sym c.carry_where.ensures.stops)
    (steps_set (λ s t. SameLink s.side.out s.side.inn s.side.station s.side.area t.side.out t.side.inn t.side.station t.side.area × (t.stand ≡ s.stand) × (t.under ≡ true → IsClearFor t.stand t.side.carried t.side.inn) × (t.under ≡ true → c.carry_where.new.self.count ≡ c.args.self.now.count + 1) × (t.under ≡ false → c.carry_where.new.self.count ≡ c.args.self.now.count)) c.args.place c.args.self.now.stops.items c.index_mut.result.now c.visit-began.new.self c.requires.inside c.index_mut.ensures.value
    (c.visit-began.ensures.link, c.visit-began.ensures.stand, c.visit-began.ensures.order, λ u. c.carry_where.ensures.carried (ap (λ z. z.under) same ∙ u), λ u. c.carry_where.ensures.still (ap (λ z. z.under) same ∙ u)))

pub returns-clause-began : goal.returns-clause-began
returns-clause-began g c =
    subst (λ z. StepsAt (λ s t. (takes_ready c.visit-began.result c.args.wish ≡ true → is_some (g.H.Hand.ready s.side.hand) ≡ true) × (g.H.Hand.script t.side.hand ≡ (if takes_ready c.visit-began.result c.args.wish then g.H.Hand.behind s.side.hand else g.H.Hand.script s.side.hand)) ×
    (s.side.passing ≡ None → (takes_ready c.visit-began.result c.args.wish ≡ true → (q : g.H.Hand.Asked) → g.H.Hand.ready s.side.hand ≡ Some q → g.H.Hand.passed q ≡ false) → t.side.passing ≡ None)) c.args.place c.args.self.now.stops.items z.items) (sym c.carry_where.ensures.stops)
    (steps_set (λ s t. (takes_ready c.visit-began.result c.args.wish ≡ true → is_some (g.H.Hand.ready s.side.hand) ≡ true) × (g.H.Hand.script t.side.hand ≡ (if takes_ready c.visit-began.result c.args.wish then g.H.Hand.behind s.side.hand else g.H.Hand.script s.side.hand)) ×
    (s.side.passing ≡ None → (takes_ready c.visit-began.result c.args.wish ≡ true → (q : g.H.Hand.Asked) → g.H.Hand.ready s.side.hand ≡ Some q → g.H.Hand.passed q ≡ false) → t.side.passing ≡ None)) c.args.place c.args.self.now.stops.items c.index_mut.result.now c.visit-began.new.self c.requires.inside c.index_mut.ensures.value
    (c.visit-began.ensures.ready, c.visit-began.ensures.script, c.visit-began.ensures.unpassed))

pub returns-clause-made : goal.returns-clause-made
returns-clause-made g c = λ x more passed made recover lens left next lives begun now d k n sub comes f.
    let v = c.index_mut.result.now in
    let w = c.visit-began.new.self in
    let e = c.visit-began.ensures in
    let index = c.args.index in
    let same = c.index.ensures ∙ get_or-set_same c.args.self.now.stops.items c.args.place c.visit-began.new.self c.index.result.now c.requires.inside in
    let begin = wish_begun c.visit-began.result c.args.wish (g.H.Hand.ready v.side.hand) in
    let there : ComesAt begun now v.place begin = at_place (λ s. ComesAt begun now s.place (wish_begun c.visit-began.result c.args.wish (g.H.Hand.ready s.side.hand))) c.args.self.now.stops.items c.args.place v c.requires.inside c.index_mut.ensures.value comes in
    frame_grows _ _ lens c.args.frame.now.items c.visit-began.new.frame.items c.args.self.now.count c.carry_where.new.self.count lives c.args.self.now.stops.items _ c.args.place v w (λ spot. v.place ≡ spot.place) d c.requires.inside c.index_mut.ensures.value (ap (λ z. z.items) c.carry_where.ensures.stops) (λ ds b m. m.lives.planned.stands.place_is)
    (λ ds es spot b i s u h p m. made_other (x b.spot) g.H.Hand.acknowledged more passed made lens recover index (λ o a. SideShows (g.H.Hand.shows s.side.hand (x b.spot)) s.side.out s.side.inn s.side.fresh s.side.duty o a) s.side.station s.place s.start s.stand s.spare s.side.out s.side.inn s.side.duty s.side.carried s.side.passing s.under s.at left next begun now ds es i b spot (there.elsewhere b.spot.place (subst (λ (z : ℕ). (b.spot.place == z) ≡ false) (sym u) (apart_back spot b.spot p).place)) sub h p m)
    (λ ds b bg l m. grown_of lens _ b.spot w.under _ c.args.frame.now.items c.visit-began.new.frame.items c.args.self.now.count c.carry_where.new.self.count ds
    (made_visit (x b.spot) g.H.Hand.acknowledged more passed made lens recover index (λ o a. SideShows (g.H.Hand.shows v.side.hand (x b.spot)) v.side.out v.side.inn v.side.fresh v.side.duty o a) (λ o a. SideShows (g.H.Hand.shows w.side.hand (x b.spot)) w.side.out w.side.inn w.side.fresh w.side.duty o a)
    v.side.station w.side.station v.place w.place v.start w.start v.stand w.stand v.spare w.spare v.side.out w.side.out v.side.inn w.side.inn v.side.duty w.side.duty v.side.carried w.side.carried v.side.passing w.side.passing v.under w.under v.at w.at left next begun now begin ds c.args.place b there
    e.station e.kept.0 e.kept.1 e.stand e.link.out_is e.link.in_is w.side.out_is w.side.in_is w.named w.near (λ u. e.at u ∙ sym l) e.order k n m
    (e.lives (x b.spot) more passed made recover b.spot lens m.life m.lives.planned.out_is m.lives.planned.back_is m.lives.planned.stands (m.waits k) m.lives.shown))
    bg l (λ u. e.begun ds bg u) e.full (λ u. c.carry_where.ensures.carried (ap (λ z. z.under) same ∙ u)) (λ u. c.carry_where.ensures.still (ap (λ z. z.under) same ∙ u)))
    f

pub returns-clause-visits : goal.returns-clause-visits
returns-clause-visits g c = λ l.
    let s = c.args.self.now in
    let w = c.carry_where.new.self in
    counted_carried c.index.result.now.under s.again s.count w.count c.args.place s.visit.items w.visit.items (c.carry_where.ensures.visits l) c.carry_where.ensures.carried c.carry_where.ensures.still

pub returns-clause-first : goal.returns-clause-first
returns-clause-first g c = λ e live.
    let s = c.args.self.now in
    let same = c.index.ensures ∙ get_or-set_same s.stops.items c.args.place c.visit-began.new.self c.index.result.now c.requires.inside in
    let here = holds_here (λ t. is_live t.stand) s.stops.items c.args.place c.index_mut.result.now c.requires.inside c.index_mut.ensures.value in
    c.carry_where.ensures.carried (ap (λ z. z.under) same ∙ c.visit-began.ensures.first e (here ∙ live))

pub returns-clause-join : goal.returns-clause-join
returns-clause-join g c =
    subst (λ z. StepsAt (λ s t. g.H.Hand.join t.side.hand ≡ g.H.Hand.join s.side.hand) c.args.place c.args.self.now.stops.items z.items) (sym c.carry_where.ensures.stops)
    (steps_set (λ s t. g.H.Hand.join t.side.hand ≡ g.H.Hand.join s.side.hand) c.args.place c.args.self.now.stops.items c.index_mut.result.now c.visit-began.new.self c.requires.inside c.index_mut.ensures.value c.visit-began.ensures.join)

pub returns-clause-room : goal.returns-clause-room
returns-clause-room g c =
    subst (λ z. StepsAt (λ s t. Visits c.args.frame.now.items c.visit-began.new.frame.items s t) c.args.place c.args.self.now.stops.items z.items) (sym c.carry_where.ensures.stops)
    (steps_set (λ s t. Visits c.args.frame.now.items c.visit-began.new.frame.items s t) c.args.place c.args.self.now.stops.items c.index_mut.result.now c.visit-began.new.self c.requires.inside c.index_mut.ensures.value c.visit-began.ensures.room)

pub returns-clause-passing : goal.returns-clause-passing
returns-clause-passing g c =
    subst (λ z. StepsAt (λ s t. (x : Speech Body g.H.Hand.Asked Reply) (made recover : ℕ) (spot : Spot) (hold : Bool) (l : Life Body g.H.Hand.Asked Reply) → StopShows (λ d a. SideShows (g.H.Hand.shows s.side.hand x) s.side.out s.side.inn s.side.fresh s.side.duty d a) recover spot s.stand s.spare l → StandPassing s.stand (g.H.Hand.awaits s.side.hand) s.side.passing l → (let n = life_next x g.H.Hand.acknowledged g.H.Hand.more g.H.Hand.passed made l l.stand (record { begin = wish_begun c.visit-began.result c.args.wish (g.H.Hand.ready s.side.hand); hold = hold }) in Counts made (wish_begun c.visit-began.result c.args.wish (g.H.Hand.ready s.side.hand)) l n → StandPassing t.stand (g.H.Hand.awaits t.side.hand) t.side.passing n)) c.args.place c.args.self.now.stops.items z.items) (sym c.carry_where.ensures.stops)
    (steps_set (λ s t. (x : Speech Body g.H.Hand.Asked Reply) (made recover : ℕ) (spot : Spot) (hold : Bool) (l : Life Body g.H.Hand.Asked Reply) → StopShows (λ d a. SideShows (g.H.Hand.shows s.side.hand x) s.side.out s.side.inn s.side.fresh s.side.duty d a) recover spot s.stand s.spare l → StandPassing s.stand (g.H.Hand.awaits s.side.hand) s.side.passing l → (let n = life_next x g.H.Hand.acknowledged g.H.Hand.more g.H.Hand.passed made l l.stand (record { begin = wish_begun c.visit-began.result c.args.wish (g.H.Hand.ready s.side.hand); hold = hold }) in Counts made (wish_begun c.visit-began.result c.args.wish (g.H.Hand.ready s.side.hand)) l n → StandPassing t.stand (g.H.Hand.awaits t.side.hand) t.side.passing n)) c.args.place c.args.self.now.stops.items c.index_mut.result.now c.visit-began.new.self c.requires.inside c.index_mut.ensures.value (λ x made recover spot hold l sh h counts. c.visit-began.ensures.passing x made recover spot hold l sh h counts))

pub returns-clause-recalled : goal.returns-clause-recalled
returns-clause-recalled g c =
    subst (λ z. StepsAt (λ s t. recall_by t.side.paused t.side.duty t.side.passing t.side.turn (g.H.Hand.knows t.side.hand) ≡ recall_by s.side.paused s.side.duty s.side.passing s.side.turn (g.H.Hand.knows s.side.hand)) c.args.place c.args.self.now.stops.items z.items) (sym c.carry_where.ensures.stops)
    (steps_set (λ s t. recall_by t.side.paused t.side.duty t.side.passing t.side.turn (g.H.Hand.knows t.side.hand) ≡ recall_by s.side.paused s.side.duty s.side.passing s.side.turn (g.H.Hand.knows s.side.hand)) c.args.place c.args.self.now.stops.items c.index_mut.result.now c.visit-began.new.self c.requires.inside c.index_mut.ensures.value c.visit-began.ensures.recalled)

pub returns-clause-takes : goal.returns-clause-takes
returns-clause-takes g c =
    subst (λ z. StepsAt (λ s t. TakesUp t.stand t.side.out.state (g.H.Hand.knows t.side.hand) (λ x d a. SideShows (g.H.Hand.shows t.side.hand x) t.side.out t.side.inn t.side.fresh t.side.duty d a)) c.args.place c.args.self.now.stops.items z.items) (sym c.carry_where.ensures.stops)
    (steps_set (λ s t. TakesUp t.stand t.side.out.state (g.H.Hand.knows t.side.hand) (λ x d a. SideShows (g.H.Hand.shows t.side.hand x) t.side.out t.side.inn t.side.fresh t.side.duty d a)) c.args.place c.args.self.now.stops.items c.index_mut.result.now c.visit-began.new.self c.requires.inside c.index_mut.ensures.value c.visit-began.ensures.takes)

pub returns-clause-begins : goal.returns-clause-begins
returns-clause-begins g c =
    subst (λ z. StepsAt (λ s t. BeginsAll s.stand c.visit-began.result (g.H.Hand.knows s.side.hand) s.side.duty s.side.passing g.H.Hand.acknowledged (λ x d a. SideShows (g.H.Hand.shows s.side.hand x) s.side.out s.side.inn s.side.fresh s.side.duty d a) c.args.wish (g.H.Hand.ready s.side.hand)) c.args.place c.args.self.now.stops.items z.items) (sym c.carry_where.ensures.stops)
    (steps_set (λ s t. BeginsAll s.stand c.visit-began.result (g.H.Hand.knows s.side.hand) s.side.duty s.side.passing g.H.Hand.acknowledged (λ x d a. SideShows (g.H.Hand.shows s.side.hand x) s.side.out s.side.inn s.side.fresh s.side.duty d a) c.args.wish (g.H.Hand.ready s.side.hand)) c.args.place c.args.self.now.stops.items c.index_mut.result.now c.visit-began.new.self c.requires.inside c.index_mut.ensures.value c.visit-began.ensures.begins)

pub returns-clause-read : goal.returns-clause-read
returns-clause-read g c =
    subst (λ z. StepsAt (λ s t. ReadStays s t) c.args.place c.args.self.now.stops.items z.items) (sym c.carry_where.ensures.stops)
    (steps_set (λ s t. ReadStays s t) c.args.place c.args.self.now.stops.items c.index_mut.result.now c.visit-began.new.self c.requires.inside c.index_mut.ensures.value c.visit-began.ensures.read)

pub returns-clause-did : goal.returns-clause-did
returns-clause-did g c =
    subst (λ z. StepsAt (λ s t. c.visit-began.result ≡ stop_begins s c.args.wish) c.args.place c.args.self.now.stops.items z.items) (sym c.carry_where.ensures.stops)
    (steps_set (λ s t. c.visit-began.result ≡ stop_begins s c.args.wish) c.args.place c.args.self.now.stops.items c.index_mut.result.now c.visit-began.new.self c.requires.inside c.index_mut.ensures.value c.visit-began.ensures.did)

pub returns-clause-lacks : goal.returns-clause-lacks
returns-clause-lacks g c =
    subst (λ z. StepsAt (λ s t. LacksFirst c.args.frame.now.items c.visit-began.result c.args.wish s t) c.args.place c.args.self.now.stops.items z.items) (sym c.carry_where.ensures.stops)
    (steps_set (λ s t. LacksFirst c.args.frame.now.items c.visit-began.result c.args.wish s t) c.args.place c.args.self.now.stops.items c.index_mut.result.now c.visit-began.new.self c.requires.inside c.index_mut.ensures.value c.visit-began.ensures.lacks)
