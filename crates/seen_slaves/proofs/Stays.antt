-- What is remembered of visits stays while mails are asked.
use Rattle.std.proofs.Common.{◌≡◌, ℕ, zero, suc, Bool, true, false, Option, None, List, [], ◌∷◌, map, refl, sym, ap, ◌∙◌, subst}
use Rattle.idle_slaves.specs.of_datagrams.Datagram as Raw
use Rattle.idle_slaves.specs.Eager.{Remembered, IsAtEnd}
use Rattle.idle_slaves.specs.Standing.{Standing, Visited}
use Rattle.idle_slaves.specs.of_frame_view.View.{Lens}
use Rattle.idle_slaves.specs.Held.{HeldUp}
use Rattle.idle_slaves.specs.Waiting.{Memory}
use Rattle.idle_slaves.specs.of_life_model.Lives.{Spot}
use Rattle.idle_slaves.specs.of_life_model.Own.{own}
use Rattle.idle_slaves.specs.of_life_runs.Led.{Exchanged, speech_at}
use Rattle.idle_slaves.specs.of_link_mails.Body.{Body}
use Rattle.idle_slaves.specs.of_link_model.Frames.{all_accepted}
use Rattle.served_rings.specs.of_master_hand.Spoken.{acknowledged}
use Rattle.idle_slaves.specs.of_plan_ring.PlanMet.{slave_at}
use Rattle.idle_slaves.specs.of_run_frames.Led.{AreLed}
use Rattle.idle_slaves.specs.of_run_frames.Waits.{Waits}
use Rattle.idle_slaves.specs.of_segment_model.Slaves.{Datagram, grams, serving}
use Rattle.idle_slaves.specs.of_segment_plan.declared.service.Service as Plan
use Rattle.idle_slaves.specs.of_segment_plan.declared.slave.SlaveSpec.{SlaveSpec}
use Rattle.idle_slaves.specs.of_life_runs.Served.{Keyed, Serves, ServedTurn, AllServedTurn, asked_at, served_behind}
use Rattle.served_rings.specs.of_served_places.Toured.{back_under}
use Rattle.seen_slaves.specs.Eager.{AllStaySo, StaysSo, leads_of, turns_of}
use Rattle.seen_slaves.proofs.Ready.{AllCounted}
use Rattle.idle_slaves.specs.of_slave_server.Serving.{Serving}
use Rattle.idle_slaves.specs.of_slave_node.Node.{Node}
use Rattle.idle_slaves.specs.WaitEager.{AllSilent}
use Rattle.idle_slaves.proofs.Fits.{Slave, exchange_at}
use Rattle.idle_slaves.proofs.Lists.{AllQuiet, AllStanding, IsStanding}

not_more : (a b : Bool) → (b ≡ true → a ≡ true) → a ≡ false → b ≡ false
not_more a true k e = absurd (let no : true ≡ false = sym (k refl) ∙ e in cc)
not_more a false k e = refl

at_end : (next : Option Plan.Service) (l m : Remembered) → StaysSo l m → IsAtEnd next l → IsAtEnd next m
at_end next l m k e = record {
  script = e.script;
  packet = not_more l.packet m.packet k.gets.packet e.packet;
  asked = not_more l.asked m.asked k.gets.asked e.asked;
}

module _ (lens : ℕ → Lens) where
  stays : (s : SlaveSpec) (next : Option Plan.Service) (c : Slave) (n : Node Serving) (l m : Remembered) (t : Waits) → StaysSo l m → IsStanding lens s next c n l t → IsStanding lens s next c n m t
  stays s next c n l m t k (Standing.gone e) = Standing.gone e
  stays s next c n l m t k (Standing.fresh u control) = Standing.fresh u control
  stays s next c n l m t k (Standing.waits v control end held) =
      Standing.waits (subst (λ (z : Memory). Visited (serving (exchange_at lens s)) (speech_at lens c.spot) c.life (slave_at lens s n).node z t) (sym k.memory) v) control (λ two. at_end next l m k (end two))
      (subst (λ (z : Memory). HeldUp (speech_at lens c.spot) acknowledged (next ≡ None) c.life z t) (sym k.memory) held)
  stays s next c n l m t k (Standing.goes g clear) = Standing.goes g clear

  -- all slaves
  pub all_stay : (ls ms : List Remembered) (ss : List SlaveSpec) (nexts : List (Option Plan.Service)) (cs : List Slave) (ns : List (Node Serving)) (ts : List Waits) → AllStaySo ls ms → AllStanding lens ss nexts cs ns ls ts → AllStanding lens ss nexts cs ns ms ts
  all_stay [] [] ss nexts cs ns ts k q = q
  all_stay [] (m ∷ ms) ss nexts cs ns ts k q = absurd k
  all_stay (l ∷ ls) [] ss nexts cs ns ts k q = absurd k
  all_stay (l ∷ ls) (m ∷ ms) [] [] [] [] ts k q = absurd q
  all_stay (l ∷ ls) (m ∷ ms) [] [] [] (n ∷ ns) ts k q = absurd q
  all_stay (l ∷ ls) (m ∷ ms) [] [] (c ∷ cs) ns ts k q = absurd q
  all_stay (l ∷ ls) (m ∷ ms) [] (z ∷ zs) cs ns ts k q = absurd q
  all_stay (l ∷ ls) (m ∷ ms) (s ∷ ss) [] cs ns ts k q = absurd q
  all_stay (l ∷ ls) (m ∷ ms) (s ∷ ss) (z ∷ zs) [] ns ts k q = absurd q
  all_stay (l ∷ ls) (m ∷ ms) (s ∷ ss) (z ∷ zs) (c ∷ cs) [] ts k q = absurd q
  all_stay (l ∷ ls) (m ∷ ms) (s ∷ ss) (z ∷ zs) (c ∷ cs) (n ∷ ns) [] k q = absurd q
  all_stay (l ∷ ls) (m ∷ ms) (s ∷ ss) (z ∷ zs) (c ∷ cs) (n ∷ ns) (t ∷ ts) k q = (stays s z c n l m t k.0 q.0, all_stay ls ms ss zs cs ns ts k.1 q.1)

  -- no mail is heard of any open one
  pub all_silent : (number : ℕ) (sent back : List (Datagram Body)) (ds : List Raw.Datagram) (ws : List Serves) (cs : List Slave) (vs : List ServedTurn) → AreLed (leads_of ws) cs → AllServedTurn lens number ds ws vs → AllQuiet lens number sent back cs (map (back_under back) vs) →
      AllSilent back (turns_of vs)
  all_silent number sent back ds [] [] [] l t k = tt
  all_silent number sent back ds [] [] (v ∷ vs) l t k = absurd t
  all_silent number sent back ds [] (c ∷ cs) vs l t k = absurd l
  all_silent number sent back ds (w ∷ ws) [] vs l t k = absurd l
  all_silent number sent back ds (w ∷ ws) (c ∷ cs) [] l t k = absurd t
  all_silent number sent back ds (w ∷ ws) (c ∷ cs) (v ∷ vs) l t k = (
    λ stands. subst (λ (z : Spot). all_accepted z.station v.turn.lived.life.era.side.halves (grams (own z.station back)) ≡ []) (l.0 ∙ sym t.0.next.spot) (k.0 stands),
    all_silent number sent back ds ws cs vs l.2 t.1 k.1,
  )

-- ---- their paces, and what an empty read counts, where a mail was asked
pub paces_asked : (place : ℕ) (k : Keyed) (ws : List Serves) → map (λ (w : Serves). w.pace) (asked_at place k ws) ≡ map (λ (w : Serves). w.pace) ws
paces_asked place k [] = refl
paces_asked zero k (w ∷ ws) = refl
paces_asked (suc place) k (w ∷ ws) = ap (λ l. w.pace ∷ l) (paces_asked place k ws)

pub counted_asked : (place : ℕ) (k : Keyed) (ts : List Waits) (ws : List Serves) → AllCounted ts ws → AllCounted ts (asked_at place k ws)
counted_asked place k ts [] c = c
counted_asked place k [] (w ∷ ws) c = absurd c
counted_asked zero k (t ∷ ts) (w ∷ ws) c = (c.0, c.1)
counted_asked (suc place) k (t ∷ ts) (w ∷ ws) c = (c.0, counted_asked place k ts ws c.1)

-- behind a frame
pub paces_served : (lens : ℕ → Lens) (recover retry : ℕ) (gives : Bool) (made number : ℕ) (f : Exchanged) (ds : List Raw.Datagram) (ws : List Serves) (vs : List ServedTurn) → AllServedTurn lens number ds ws vs →
    map (λ (w : Serves). w.pace) (map (served_behind lens recover retry gives made f) vs) ≡ map (λ (w : Serves). w.pace) ws
paces_served lens recover retry gives made number f ds [] [] t = refl
paces_served lens recover retry gives made number f ds [] (v ∷ vs) t = absurd t
paces_served lens recover retry gives made number f ds (w ∷ ws) [] t = absurd t
paces_served lens recover retry gives made number f ds (w ∷ ws) (v ∷ vs) t =
    let rest : map (λ (i : Serves). i.pace) (map (served_behind lens recover retry gives made f) vs) ≡ map (λ (i : Serves). i.pace) ws = paces_served lens recover retry gives made number f ds ws vs t.1 in
    (λ i. t.0.pace i ∷ rest i)
