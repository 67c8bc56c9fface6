-- WHAT WHO ASKED GETS TO KNOW OF A FRAME of a serving is what the lives of the slaves tell.
use Rattle.std.proofs.Common.{◌≡◌, ℕ, zero, suc, Option, Some, None, List, [], ◌∷◌, ◌++◌, map, refl, sym, ap, ◌∙◌}
use Rattle.std.specs.Prelude.{filter}
use Rattle.std.proofs.lemmas.List.Elements.{filter-append}
use Rattle.packets_heard.specs.of_master_node.Begins.{begun_of}
use Rattle.packets_heard.specs.of_master_node.Besides.{given_told}
use Rattle.packets_heard.specs.of_master_node.Events.{ServedBegin, begun_told, oldest_in, served_tells}
use Rattle.packets_heard.specs.of_master_node.Gateways.{is_gateway, lives_told}
use Rattle.packets_heard.specs.of_master_node.Lifetold.{lost_at, lost_told, told_at}
use Rattle.packets_heard.specs.of_master_node.Listed.{listed}
use Rattle.packets_heard.specs.of_master_node.Listing.{events_in, number_at, told_in}
use Rattle.packets_heard.specs.of_master_node.Serving.{IsServedUnder, ServedUnder, run_lead, run_turn}
use Rattle.packets_heard.specs.of_master_node.Shows.{is_carried}
use Rattle.packets_heard.specs.of_master_node.declared.event.Event.{Event}
use Rattle.packets_heard.specs.of_master_node.declared.node.MasterNode.{MasterNode}
use Rattle.packets_heard.specs.of_master_node.declared.post.Post.{Post}
use Rattle.plan_ring.specs.of_frame_view.Seen.{seen}
use Rattle.plan_ring.specs.of_frame_view.View.{Lens}
use Rattle.plan_ring.specs.of_frame_view.Shares.{AllThree}
use Rattle.served_places.specs.of_life_runs.Led.{Exchanged}
use Rattle.served_places.specs.of_state_model.Stated.{Service}
use Rattle.served_places.specs.of_master_hand.Spoken.{Asked}
use Rattle.served_places.specs.of_master_hand.declared.hand.InHand.{InHand}
use Rattle.served_places.specs.of_master_side.declared.hand.Hand.{Ghosts}
use Rattle.served_places.specs.of_master_tour.Goes.{holds_at}
use Rattle.served_places.specs.of_master_tour.Stands.{turned}
use Rattle.served_places.specs.of_master_tour.declared.stop.Stop.{Stop}
use Rattle.served_places.specs.of_master_tour.declared.stop.Turned.{Turned}
use Rattle.run_record.specs.Served.{TellsFrame, told_behind}
use Rattle.served_places.specs.of_segment_ring.declared.wire.Fate.{Fate}
use Rattle.served_places.specs.of_segment_ring.declared.wire.Fate.TheVariants as Fates
use Rattle.served_places.specs.of_life_runs.Served.{Serves, ServedTurn}

-- where all that is told of a slave gets known, all that is told of these does
known_in : (tells : ℕ → List Event) → ((k : ℕ) → filter is_gateway (tells k) ≡ tells k) → (ps : List ℕ) → filter is_gateway (told_in tells ps) ≡ told_in tells ps
known_in tells h [] = refl
known_in tells h (p ∷ ps) = filter-append is_gateway (tells p) (told_in tells ps) ∙ (λ i. h p i ++ known_in tells h ps i)

-- so it is with what came into hand
begins_known : (place number forwards oldest : ℕ) (b : Option (Service Asked)) → filter is_gateway (begun_told place number forwards oldest b) ≡ begun_told place number forwards oldest b
begins_known place number forwards oldest None = refl
begins_known place number forwards oldest (Some s) = refl

pub began_known : (ws : List Serves) (forwards : ℕ → ℕ) (begun : ℕ → Option (Service Asked)) (ps : List ℕ) → filter is_gateway (told_in (λ k. served_tells ws k (forwards k) (begun k)) ps) ≡ told_in (λ k. served_tells ws k (forwards k) (begun k)) ps
began_known ws forwards begun ps = known_in (λ k. served_tells ws k (forwards k) (begun k)) (λ k. begins_known k (number_at (map run_lead ws) k) (forwards k) (oldest_in ws k) (begun k)) ps

-- and with each give-up
given_known : (place : ℕ) (news : Option Turned) → filter is_gateway (given_told place news) ≡ given_told place news
given_known place None = refl
given_known place (Some Turned.GivenUp) = refl
given_known place (Some Turned.Cleared) = refl
given_known place (Some Turned.Opened) = refl

told_known : (tells : ServedTurn → Serves → List Event) → ((v : ServedTurn) (w : Serves) → filter is_gateway (tells v w) ≡ tells v w) → (vs : List ServedTurn) (ws : List Serves) (k : ℕ) → filter is_gateway (told_at tells vs ws k) ≡ told_at tells vs ws k
told_known tells h [] ws k = refl
told_known tells h (v ∷ vs) [] k = refl
told_known tells h (v ∷ vs) (w ∷ ws) zero = h v w
told_known tells h (v ∷ vs) (w ∷ ws) (suc k) = told_known tells h vs ws k

pub lost_known : (vs : List ServedTurn) (ws : List Serves) (ps : List ℕ) → filter is_gateway (told_in (λ k. lost_at vs ws k) ps) ≡ told_in (λ k. lost_at vs ws k) ps
lost_known vs ws ps = known_in (λ k. lost_at vs ws k) (λ k. told_known (λ v w. lost_told k v.turn.lived.life w.lead.lived.life) (λ v w. given_known k (turned v.turn.lived.life w.lead.lived.life)) vs ws k) ps

-- BEHIND A FRAME, by its fate
pub told_pass : (lens : ℕ → Lens) (f : Exchanged) (vs : List ServedTurn) (ws : List Serves) (ps : List ℕ) (back : List ℕ) (es : List Event) → f.fate ≡ Fates.Pass → f.back ≡ back → filter is_gateway es ≡ told_in (λ k. lives_told (seen lens back) vs ws k) ps →
    filter is_gateway es ≡ told_in (λ k. told_behind lens f f.fate vs ws k) ps
told_pass lens f vs ws ps back es pass is e = e ∙ ap (λ (o : List ℕ). told_in (λ k. lives_told (seen lens o) vs ws k) ps) (sym is) ∙ ap (λ (z : Fate). told_in (λ k. told_behind lens f z vs ws k) ps) (sym pass)

pub told_lost : (lens : ℕ → Lens) (f : Exchanged) (vs : List ServedTurn) (ws : List Serves) (ps : List ℕ) (after : ℕ) (es : List Event) → f.fate ≡ Fates.Lost after → es ≡ told_in (λ k. lost_at vs ws k) ps →
    filter is_gateway es ≡ told_in (λ k. told_behind lens f f.fate vs ws k) ps
told_lost lens f vs ws ps after es lost e = ap (filter is_gateway) e ∙ lost_known vs ws ps ∙ ap (λ (z : Fate). told_in (λ k. told_behind lens f z vs ws k) ps) (sym lost)

-- the frame has a datagram of just the slaves whose stops say so
turns_carried : {G : Ghosts InHand} (lens : ℕ → Lens) (recover made : ℕ) (octets : List ℕ) (vs : List ServedTurn) (ps : List Post) (ss : List (Stop InHand G)) → AllThree (λ v p s. IsServedUnder lens recover octets made v p s) vs ps ss → (k : ℕ) →
    holds_at (λ s. s.under) ss k ≡ holds_at (λ v. is_carried v.turn) vs k
turns_carried lens recover made octets [] [] [] h k = refl
turns_carried lens recover made octets [] [] (s ∷ ss) h k = absurd h
turns_carried lens recover made octets [] (p ∷ ps) [] h k = absurd h
turns_carried lens recover made octets [] (p ∷ ps) (s ∷ ss) h k = absurd h
turns_carried lens recover made octets (v ∷ vs) [] [] h k = absurd h
turns_carried lens recover made octets (v ∷ vs) [] (s ∷ ss) h k = absurd h
turns_carried lens recover made octets (v ∷ vs) (p ∷ ps) [] h k = absurd h
turns_carried lens recover made octets (v ∷ vs) (p ∷ ps) (s ∷ ss) h zero = sym h.0.under
turns_carried lens recover made octets (v ∷ vs) (p ∷ ps) (s ∷ ss) h (suc k) = turns_carried lens recover made octets vs ps ss h.1 k

-- THE WHOLE LIST: the events of the frame's making, and those of its return or loss
pub tells_frame : (lens : ℕ → Lens) (recover retry missed made : ℕ) (forwards : ℕ → ℕ) (m n : MasterNode) (f : Exchanged) (ws new : List Serves) (vs : List ServedTurn) → ServedBegin forwards ws vs m → ServedUnder lens recover retry m f.sent missed made vs →
    listed n.list.rows.items n.list.count ≡ events_in m ++ events_in n → filter is_gateway (events_in n) ≡ told_in (λ k. told_behind lens f f.fate vs new k) m.tour.visit.items → TellsFrame lens forwards ws f vs new n
tells_frame lens recover retry missed made forwards m n f ws new vs begins under whole told = record {
  began = begins.visited;
  began_once = begins.once;
  others = begins.others;
  visited = m.tour.visit.items;
  once = under.goes.comes.once;
  carried = λ k h. under.carried k (turns_carried lens recover made f.sent vs m.posts.items m.tour.stops.items under.each k ∙ h);
  told =
      ap (filter is_gateway) whole ∙ filter-append is_gateway (events_in m) (events_in n)
      ∙ (λ i. (ap (filter is_gateway) begins.listed ∙ began_known ws forwards (begun_of (map run_turn vs)) begins.visited) i ++ told i);
}
