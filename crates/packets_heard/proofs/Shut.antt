-- A port that went down stays so, with nothing at it; and at the host's port nothing ever waits.
use Rattle.std.proofs.Common.{◌≡◌, ◌≤◌, ℕ, zero, suc, ◌+◌, ◌==◌, Bool, true, false, Option, Some, None, List, [], ◌∷◌, refl, sym, ap, ◌∙◌, subst, arith, if◌then◌else◌}
use Rattle.std.specs.Prelude.{◌||◌, not, slice_get, drop, replicate}
use Rattle.std.proofs.lemmas.Bool.{eqb-true}
use Rattle.arrayvec.specs.ArrayVec.{ArrayVec}
use Rattle.master_node.specs.of_eoe_switch.Ports.{offered, taken_at, is_known_target}
use Rattle.master_node.specs.of_eoe_switch.Switch.{Flow, flow_behind, flow_of, ports_behind, changed, queue_of, route_of, learned_from}
use Rattle.master_node.specs.of_eoe_switch.declared.port.Offered.TheVariants.{Not}
use Rattle.master_node.specs.of_eoe_switch.declared.port.Port.{Port}
use Rattle.master_node.specs.of_eoe_switch.declared.port.Route.{Route}
use Rattle.master_node.specs.of_eoe_switch.declared.switching.SwitchEvent.{SwitchEvent}
use Rattle.master_node.specs.of_eoe_switch.declared.switching.SwitchEvent.TheVariants.{Arrive, Begun, Down}
use Rattle.packets_heard.specs.Listed.{downs_at}

-- a port that is down, or none
abbrev pub IsShut : Option Port → Type 0
IsShut o = (p : Port) → o ≡ Some p → (p.up ≡ false) × (p.queue ≡ [])

abbrev IsDown : Port → Type 0
IsDown p = (p.up ≡ false) × (p.queue ≡ [])

none_shut : IsShut None
none_shut p e = absurd (let no : None ≡ Some p = e in cc)

some_shut : (p : Port) → IsDown p → IsShut (Some p)
some_shut p d q e = let same : p ≡ q = (let both : Some p ≡ Some q = e in cc) in subst IsDown same d

-- nothing is offered to it
or_true : (b : Bool) → (b || true) ≡ true
or_true true = refl
or_true false = refl

offered_down : (route : Route) (at : ℕ) (packet : ArrayVec ℕ) (p : Port) → p.up ≡ false → (offered route at packet p).port ≡ p
offered_down route at packet p e =
    let targets : (at == route.from || not p.up) ≡ true = ap (λ b. at == route.from || not b) e ∙ or_true (at == route.from) in
    ap (λ (b : Bool). (if (if b then false else is_known_target route.known at) then taken_at at packet p else record { port = p; offered = Not }).port) targets

module _ (route : Route) (packet : ArrayVec ℕ) where
  shut_arrive : (at : ℕ) (ps : List Port) (k : ℕ) → IsShut (slice_get ps k) → IsShut (slice_get (ports_behind route packet at ps) k)
  shut_arrive at [] k s = s
  shut_arrive at (p ∷ ps) zero s = let d = s p refl in subst IsShut (ap (λ q. Some q) (sym (offered_down route at packet p d.0))) s
  shut_arrive at (p ∷ ps) (suc k) s = shut_arrive (at + 1) ps k s

-- a port that is changed
changed_later : (f : Port → Port) (p : Port) (ps : List Port) (at : ℕ) (o : Option Port) → changed f (p ∷ ps) (suc at) o ≡ p ∷ changed f ps at o
changed_later f p ps at None = refl
changed_later f p ps at (Some q) = refl

module _ (f : Port → Port) (stays : (p : Port) → IsDown p → IsDown (f p)) where
  shut_change : (ps : List Port) (at k : ℕ) → IsShut (slice_get ps k) → IsShut (slice_get (changed f ps at (slice_get ps at)) k)
  shut_change [] at k s = s
  shut_change (p ∷ ps) zero zero s = some_shut (f p) (stays p (s p refl))
  shut_change (p ∷ ps) zero (suc k) s = s
  shut_change (p ∷ ps) (suc at) zero s = subst (λ (l : List Port). IsShut (slice_get l 0)) (sym (changed_later f p ps at (slice_get ps at))) s
  shut_change (p ∷ ps) (suc at) (suc k) s = subst (λ (l : List Port). IsShut (slice_get l (suc k))) (sym (changed_later f p ps at (slice_get ps at))) (shut_change ps at k s)

abbrev began : Port → Port
began p = record p { queue = drop 1 p.queue }

abbrev downed : Port → Port
downed p = record { up = false; queue = [] }

began_down : (p : Port) → IsDown p → IsDown (record p { queue = drop 1 p.queue })
began_down p d = (d.0, ap (λ (q : List (ArrayVec ℕ)). drop 1 q) d.1)

shuts : (ps : List Port) (at : ℕ) → IsShut (slice_get (changed (λ (p : Port). record { up = false; queue = [] }) ps at (slice_get ps at)) at)
shuts [] at = none_shut
shuts (p ∷ ps) zero = some_shut (record { up = false; queue = [] }) (refl, refl)
shuts (p ∷ ps) (suc at) = subst (λ (l : List Port). IsShut (slice_get l (suc at))) (sym (changed_later (λ (p : Port). record { up = false; queue = [] }) p ps at (slice_get ps at))) (shuts ps at)

-- ---- by events
abbrev At : ℕ → Flow → Type 0
At p flow = IsShut (slice_get flow.switch.ports p)

shut_on : (p : ℕ) (flow : Flow) (e : SwitchEvent) → At p flow → At p (flow_behind flow e)
shut_on p flow (Arrive port packet) s = shut_arrive (route_of (learned_from flow.switch.learned port packet.items) port packet.items) packet 0 flow.switch.ports p s
shut_on p flow (Begun port) s = shut_change (λ (q : Port). record q { queue = drop 1 q.queue }) began_down flow.switch.ports port p s
shut_on p flow (Down port) s = shut_change (λ (q : Port). record { up = false; queue = [] }) (λ q d. (refl, refl)) flow.switch.ports port p s

shut_behind : (p : ℕ) (flow : Flow) (es : List SwitchEvent) → At p flow → At p (flow_of flow es)
shut_behind p flow [] s = s
shut_behind p flow (e ∷ es) s = shut_behind p (flow_behind flow e) es (shut_on p flow e s)

pub down_shut : (p : ℕ) (flow : Flow) (es : List SwitchEvent) → 1 ≤ downs_at p es → IsShut (slice_get (flow_of flow es).switch.ports p)
down_shut p flow [] one = absurd (omega (arith, one))
down_shut p flow (Arrive port packet ∷ es) one = down_shut p (flow_behind flow (Arrive port packet)) es (omega (arith, one))
down_shut p flow (Begun port ∷ es) one = down_shut p (flow_behind flow (Begun port)) es (omega (arith, one))
down_shut p flow (Down port ∷ es) one = go (λ more. down_shut p (flow_behind flow (Down port)) es more) (port == p) refl one
  where
    go : (1 ≤ downs_at p es → At p (flow_of flow (Down port ∷ es))) → (b : Bool) → (port == p) ≡ b → 1 ≤ (if b then 1 else 0) + downs_at p es → At p (flow_of flow (Down port ∷ es))
    go rest true e some = shut_behind p (flow_behind flow (Down port)) es (subst (λ k. IsShut (slice_get (flow_behind flow (Down port)).switch.ports k)) (eqb-true port p e) (shuts flow.switch.ports port))
    go rest false e some = rest (omega (arith, some))

-- nothing waits there
pub shut_empty : (o : Option Port) → IsShut o → queue_of o ≡ []
shut_empty None s = refl
shut_empty (Some p) s = (s p refl).1

-- ---- the host's port
taken_host : (packet : ArrayVec ℕ) (p : Port) → (taken_at 0 packet p).port ≡ p
taken_host packet p = refl

offered_host : (route : Route) (packet : ArrayVec ℕ) (p : Port) → (offered route 0 packet p).port ≡ p
offered_host route packet p = go (if 0 == route.from || not p.up then false else is_known_target route.known 0)
  where
    go : (b : Bool) → (if b then taken_at 0 packet p else record { port = p; offered = Not }).port ≡ p
    go true = refl
    go false = refl

abbrev pub HostEmpty : List Port → Type 0
HostEmpty ps = queue_of (slice_get ps 0) ≡ []

host_arrive : (route : Route) (packet : ArrayVec ℕ) (ps : List Port) → HostEmpty ps → HostEmpty (ports_behind route packet 0 ps)
host_arrive route packet [] e = e
host_arrive route packet (p ∷ ps) e = ap (λ (q : Port). q.queue) (offered_host route packet p) ∙ e

host_change : (f : Port → Port) → ((p : Port) → p.queue ≡ [] → (f p).queue ≡ []) → (ps : List Port) (at : ℕ) → HostEmpty ps → HostEmpty (changed f ps at (slice_get ps at))
host_change f stays [] at e = e
host_change f stays (p ∷ ps) zero e = stays p e
host_change f stays (p ∷ ps) (suc at) e = ap (λ (l : List Port). queue_of (slice_get l 0)) (changed_later f p ps at (slice_get ps at)) ∙ e

host_on : (flow : Flow) (e : SwitchEvent) → HostEmpty flow.switch.ports → HostEmpty (flow_behind flow e).switch.ports
host_on flow (Arrive port packet) h = host_arrive (route_of (learned_from flow.switch.learned port packet.items) port packet.items) packet flow.switch.ports h
host_on flow (Begun port) h = host_change (λ (q : Port). record q { queue = drop 1 q.queue }) (λ p e. ap (λ (q : List (ArrayVec ℕ)). drop 1 q) e) flow.switch.ports port h
host_on flow (Down port) h = host_change (λ (q : Port). record { up = false; queue = [] }) (λ p e. refl) flow.switch.ports port h

pub host_empty : (flow : Flow) (es : List SwitchEvent) → HostEmpty flow.switch.ports → HostEmpty (flow_of flow es).switch.ports
host_empty flow [] h = h
host_empty flow (e ∷ es) h = host_empty (flow_behind flow e) es (host_on flow e h)

pub host_first : (many : ℕ) (port : Port) → port.queue ≡ [] → HostEmpty (replicate many port)
host_first zero port e = refl
host_first (suc many) port e = e

-- ---- a switch keeps its ports
behind_past : (route : Route) (packet : ArrayVec ℕ) (at : ℕ) (ps : List Port) (k : ℕ) → slice_get ps k ≡ None → slice_get (ports_behind route packet at ps) k ≡ None
behind_past route packet at [] k e = e
behind_past route packet at (p ∷ ps) zero e = absurd (cc)
behind_past route packet at (p ∷ ps) (suc k) e = behind_past route packet (at + 1) ps k e

changed_past : (f : Port → Port) (ps : List Port) (at k : ℕ) → slice_get ps k ≡ None → slice_get (changed f ps at (slice_get ps at)) k ≡ None
changed_past f [] at k e = e
changed_past f (p ∷ ps) zero zero e = absurd (cc)
changed_past f (p ∷ ps) zero (suc k) e = e
changed_past f (p ∷ ps) (suc at) zero e = absurd (cc)
changed_past f (p ∷ ps) (suc at) (suc k) e = ap (λ (l : List Port). slice_get l (suc k)) (changed_later f p ps at (slice_get ps at)) ∙ changed_past f ps at k e

past_on : (k : ℕ) (flow : Flow) (e : SwitchEvent) → slice_get flow.switch.ports k ≡ None → slice_get (flow_behind flow e).switch.ports k ≡ None
past_on k flow (Arrive port packet) e = behind_past (route_of (learned_from flow.switch.learned port packet.items) port packet.items) packet 0 flow.switch.ports k e
past_on k flow (Begun port) e = changed_past (λ (q : Port). record q { queue = drop 1 q.queue }) flow.switch.ports port k e
past_on k flow (Down port) e = changed_past (λ (q : Port). record { up = false; queue = [] }) flow.switch.ports port k e

pub past_behind : (k : ℕ) (flow : Flow) (es : List SwitchEvent) → slice_get flow.switch.ports k ≡ None → slice_get (flow_of flow es).switch.ports k ≡ None
past_behind k flow [] e = e
past_behind k flow (x ∷ es) e = past_behind k (flow_behind flow x) es (past_on k flow x e)

pub past_first : {X : Type 0} (many k : ℕ) (x : X) → many ≤ k → slice_get (replicate many x) k ≡ None
past_first zero k x le = refl
past_first (suc many) zero x le = absurd (omega (arith, le))
past_first (suc many) (suc k) x le = past_first many k x (omega (arith, le))
