-- What is unfinished of the slaves' packets, before a frame, while it is under way, and behind it.
use Rattle.std.proofs.Common.{◌≡◌, ℕ, Option, None, List, [], ◌∷◌, map, length, refl, sym, ap, subst, ◌∙◌, arith}
use Rattle.master_node.specs.of_datagrams.Datagram as Raw
use Rattle.master_node.specs.of_eoe.declared.joining.Unfinished.{Unfinished}
use Rattle.master_node.specs.of_frame_view.View.{Lens}
use Rattle.master_node.specs.of_life_model.Lives.{Life, Stand}
use Rattle.master_node.specs.of_life_runs.Led.{Exchanged, Leads, Turn, AllTurn, speech_at, is_passed}
use Rattle.slave_server.specs.of_link_mails.Body.{Body}
use Rattle.master_node.specs.of_master_duty.Reply.{Reply}
use Rattle.master_node.specs.of_master_hand.Joins.{unfinished_behind}
use Rattle.master_node.specs.of_master_hand.Spoken.{Asked, acknowledged, is_followed}
use Rattle.master_node.specs.Joined.{IsUnfinished, HasUnfinished, JoinsKept, stand_before, stand_under, unfinished_after}
use Rattle.master_node.specs.Serving.{run_lead, run_turn}
use Rattle.master_node.specs.declared.node.MasterNode.{MasterNode}
use Rattle.master_node.proofs.Counts.{next_stand}
use Rattle.master_node.proofs.Joineds.{three_kept}
use Rattle.master_node.specs.of_master_tour.Joins.{join_at}
use Rattle.packets_heard.specs.Heard.{Joined, joined_on, mails_by}
use Rattle.packets_heard.specs.Listed.{unfinished_of}
use Rattle.master_node.specs.of_life_runs.Served.{Serves, ServedTurn, AllServedTurn}

-- a frame under way leaves it as it was
turn_stands : (lens : ℕ → Lens) (made : ℕ) (ds : List Raw.Datagram) (as' : List Leads) (us : List Turn) → AllTurn lens made ds as' us → map stand_under us ≡ map stand_before as'
turn_stands lens made ds [] [] t = refl
turn_stands lens made ds [] (u ∷ us) t = absurd t
turn_stands lens made ds (a ∷ as') [] t = absurd t
turn_stands lens made ds (a ∷ as') (u ∷ us) t = λ i.
    (ap (λ (m : Life Body Asked Reply). m.stand) t.0.next.life ∙ next_stand (speech_at lens a.lived.spot) acknowledged is_followed is_passed made a.lived.life t.0.next.pick a.lived.life.stand) i
    ∷ turn_stands lens made ds as' us t.1 i

served_stands : (lens : ℕ → Lens) (made : ℕ) (ds : List Raw.Datagram) (ws : List Serves) (vs : List ServedTurn) → AllServedTurn lens made ds ws vs → map stand_under (map run_turn vs) ≡ map stand_before (map run_lead ws)
served_stands lens made ds [] [] t = refl
served_stands lens made ds [] (v ∷ vs) t = absurd t
served_stands lens made ds (w ∷ ws) [] t = absurd t
served_stands lens made ds (w ∷ ws) (v ∷ vs) t =
    let a = w.lead in λ i.
    (ap (λ (m : Life Body Asked Reply). m.stand) t.0.next.life ∙ next_stand (speech_at lens a.lived.spot) acknowledged is_followed is_passed made a.lived.life t.0.next.pick a.lived.life.stand) i
    ∷ served_stands lens made ds ws vs t.1 i

-- so does what stays of it
stays : (m n : MasterNode) (befores : List (Option Unfinished)) (old new : List Stand) → new ≡ old → JoinsKept m n → HasUnfinished m old befores → HasUnfinished n new befores
stays m n befores old new same k h =
    subst (λ z. HasUnfinished n z befores) (sym same)
    (three_kept (λ l j s. IsUnfinished l s.side.hand.found.join j) (λ s t. t.side.hand.found.join ≡ s.side.hand.found.join) (λ l j s t x e. subst (λ z. IsUnfinished l z j) (sym e) x) old befores m.tour.stops.items n.tour.stops.items h k)

pub under_way : (lens : ℕ → Lens) (made : ℕ) (ds : List Raw.Datagram) (as' : List Leads) (us : List Turn) (m n : MasterNode) (befores : List (Option Unfinished)) → AllTurn lens made ds as' us → JoinsKept m n → HasUnfinished m (map stand_before as') befores →
    HasUnfinished n (map stand_under us) befores
under_way lens made ds as' us m n befores t k h = stays m n befores (map stand_before as') (map stand_under us) (turn_stands lens made ds as' us t) k h

pub served_under_way : (lens : ℕ → Lens) (made : ℕ) (ds : List Raw.Datagram) (ws : List Serves) (vs : List ServedTurn) (m n : MasterNode) (befores : List (Option Unfinished)) → AllServedTurn lens made ds ws vs → JoinsKept m n → HasUnfinished m (map stand_before (map run_lead ws)) befores →
    HasUnfinished n (map stand_under (map run_turn vs)) befores
served_under_way lens made ds ws vs m n befores t k h = stays m n befores (map stand_before (map run_lead ws)) (map stand_under (map run_turn vs)) (served_stands lens made ds ws vs t) k h

-- behind it, as the packets are joined
pub joined_so : (lens : ℕ → Lens) (f : Exchanged) (js : List Joined) (us : List Turn) → length js ≡ length us → unfinished_of (joined_on lens f js us) ≡ unfinished_after (λ u. mails_by lens f f.fate u) us (unfinished_of js)
joined_so lens f [] [] e = refl
joined_so lens f [] (u ∷ us) e = absurd (omega (arith, e))
joined_so lens f (j ∷ js) [] e = absurd (omega (arith, e))
joined_so lens f (j ∷ js) (u ∷ us) e = ap (λ z. join_at None unfinished_behind (stand_under u) j.unfinished (mails_by lens f f.fate u) ∷ z) (joined_so lens f js us (omega (arith, e)))
