-- What happens at the switch, one thing after the other.
use Rattle.std.proofs.Common.{◌≡◌, ℕ, zero, suc, ◌+◌, ◌*◌, ◌^◌, ◌%◌, ◌<◌, ◌≤◌, List, [], ◌∷◌, ◌++◌, Bool, false, Option, Some, None, refl, sym, ap, subst, ◌∙◌, arith, length, take, drop, get_or, replicate, append_assoc, append-nil, add-one}
use Rattle.std.specs.Prelude.{◌==◌, if◌then◌else◌, All, slice_get, slice_set}
use Rattle.std.proofs.lemmas.List.Elements.{All-nil, All-push}
use Rattle.std.proofs.Math.Nat.{pow-succ'}
use Rattle.std.proofs.lemmas.Grind.{common_steps}
use Rattle.std.proofs.Math.Seq.{take-suc}
use Rattle.arrayvec.specs.ArrayVec.{ArrayVec}
use Rattle.eoe_switch.specs.Ports.{offered}
use Rattle.eoe_switch.specs.Switch.{Switched, Flow, first_switch, flow_behind, flow_of, switched, arrived, begun_at, downed_at, bits_of_taken, bit_where, forwards_behind, learned_from, route_of, queue_of, queue_at, changed}
use Rattle.eoe_switch.specs.declared.port.Offered.{Offered}
use Rattle.eoe_switch.specs.declared.port.Offered.TheVariants.{Not, Taken, Full}
use Rattle.eoe_switch.specs.declared.port.Port.{Port}
use Rattle.eoe_switch.specs.declared.port.Route.{Route}
use Rattle.eoe_switch.specs.declared.switching.SwitchEvent.{SwitchEvent}
use Rattle.eoe_switch.specs.declared.switching.SwitchEvent.TheVariants.{Arrive, Begun, Down}
use Rattle.master_node.specs.Begins.{switch_on}
use Rattle.master_node.specs.Happened.{events_of, handed_by, handed_in, arrived_by, arrivals_at, NoneWaits, HasHappened, Comes, Happens, HappensSo}
use Rattle.master_node.specs.Ports.{IsAtPort}
use Rattle.master_node.specs.declared.happened.Happening.{Happening}
use Rattle.master_node.specs.declared.lan.Lan.{Lan}

-- ---- one more row at the end

pub events_push : (rows : List Happening) (r : Happening) → events_of (rows ++ r ∷ []) ≡ events_of rows ++ r.event ∷ []
events_push [] r = refl
events_push (q ∷ rows) r = ap (λ z. q.event ∷ z) (events_push rows r)

pub flow_push : (flow : Flow) (es : List SwitchEvent) (e : SwitchEvent) → flow_of flow (es ++ e ∷ []) ≡ flow_behind (flow_of flow es) e
flow_push flow [] e = refl
flow_push flow (d ∷ es) e = flow_push (flow_behind flow d) es e

pub handed_push : (rows : List Happening) (r : Happening) → handed_in (rows ++ r ∷ []) ≡ handed_in rows ++ handed_by r
handed_push [] r = append-nil (handed_by r)
handed_push (q ∷ rows) r = ap (λ z. handed_by q ++ z) (handed_push rows r) ∙ sym (append_assoc (handed_by q) (handed_in rows) (handed_by r))

pub arrivals_push : (port : ℕ) (es : List SwitchEvent) (e : SwitchEvent) → arrivals_at port (es ++ e ∷ []) ≡ arrivals_at port es ++ arrived_by port e
arrivals_push port [] e = append-nil (arrived_by port e)
arrivals_push port (d ∷ es) e =
    ap (λ z. arrived_by port d ++ z) (arrivals_push port es e) ∙ sym (append_assoc (arrived_by port d) (arrivals_at port es) (arrived_by port e))

-- where a packet of the host comes in none waits, from a switch and what was forwarded on: so it is with one event more
waits_push :
    (flow : Flow) (es : List SwitchEvent) (e : SwitchEvent)
    → ((before after : List SwitchEvent) (packet : ArrayVec ℕ) → es ≡ before ++ Arrive 0 packet ∷ after → NoneWaits (flow_of flow before).switch)
    → ((packet : ArrayVec ℕ) → e ≡ Arrive 0 packet → NoneWaits (flow_of flow es).switch)
    → (before after : List SwitchEvent) (packet : ArrayVec ℕ) → es ++ e ∷ [] ≡ before ++ Arrive 0 packet ∷ after → NoneWaits (flow_of flow before).switch
waits_push flow [] e h w [] after packet is = let same : e ≡ Arrive 0 packet = cc in w packet same
waits_push flow [] e h w (b ∷ []) after packet is = absurd (cc)
waits_push flow [] e h w (b ∷ c ∷ before) after packet is = absurd (cc)
waits_push flow (d ∷ es) e h w [] after packet is = let same : d ≡ Arrive 0 packet = cc in h [] es packet (ap (λ z. z ∷ es) same)
waits_push flow (d ∷ es) e h w (b ∷ before) after packet is =
    let same : d ≡ b = cc in
    let rest : es ++ e ∷ [] ≡ before ++ Arrive 0 packet ∷ after = cc in
    subst (λ z. NoneWaits (flow_of (flow_behind flow z) before).switch) same
    (waits_push (flow_behind flow d) es e (λ before' after' packet' is'. h (d ∷ before') after' packet' (ap (λ z. d ∷ z) is')) w before after packet rest)

-- ---- what is forwarded to the host

-- a bit behind the first is even
even_bit : (o : Offered) (at : ℕ) → (k : ℕ) × (bit_where Taken o (at + 1) ≡ 2 * k)
even_bit Not at = (0, refl)
even_bit Taken at = (2 ^ at, ap (λ n. 2 ^ n) (add-one at) ∙ pow-succ' 2 at)
even_bit Full at = (0, refl)

even_bits : (route : Route) (packet : ArrayVec ℕ) (at : ℕ) (ps : List Port) → (k : ℕ) × (bits_of_taken route packet (at + 1) ps ≡ 2 * k)
even_bits route packet at [] = (0, refl)
even_bits route packet at (p ∷ ps) =
    let here = even_bit (offered route (at + 1) packet p).offered at in
    let rest = even_bits route packet (at + 1) ps in
    (here.0 + rest.0, omega (arith, here.1, rest.1))

rest_even : (n k : ℕ) → n ≡ 2 * k → n % 2 ≡ 0
rest_even n k e = omega arith

rest_odd : (n k : ℕ) → n ≡ 1 + 2 * k → n % 2 ≡ 1
rest_odd n k e = omega arith

-- the first port takes a packet where the first bit says so
first_taken : (o : Offered) (bits k : ℕ) (h : List (ArrayVec ℕ)) (packet : ArrayVec ℕ) → bits ≡ 2 * k →
    (if bit_where Taken o 0 == 0 then h else h ++ packet ∷ []) ≡ h ++ (if (bit_where Taken o 0 + bits) % 2 == 1 then packet ∷ [] else [])
first_taken Not bits k h packet e = sym (ap (λ n. h ++ (if n == 1 then packet ∷ [] else [])) (rest_even (0 + bits) k (omega arith)) ∙ append-nil h)
first_taken Taken bits k h packet e = sym (ap (λ n. h ++ (if n == 1 then packet ∷ [] else [])) (rest_odd (1 + bits) k (omega arith)))
first_taken Full bits k h packet e = sym (ap (λ n. h ++ (if n == 1 then packet ∷ [] else [])) (rest_even (0 + bits) k (omega arith)) ∙ append-nil h)

forward_first : (route : Route) (packet : ArrayVec ℕ) (ps : List Port) (fs : List (List (ArrayVec ℕ))) (h : List (ArrayVec ℕ)) (rest : List (List (ArrayVec ℕ))) → fs ≡ h ∷ rest → 1 ≤ length ps →
    (others : List (List (ArrayVec ℕ))) × (forwards_behind route packet 0 ps fs ≡ (h ++ (if bits_of_taken route packet 0 ps % 2 == 1 then packet ∷ [] else [])) ∷ others)
forward_first route packet [] fs h rest e l = absurd (omega arith)
forward_first route packet (p ∷ ps) fs h rest e l =
    let even = even_bits route packet 0 ps in (
      forwards_behind route packet 1 ps rest,
      ap (λ z. forwards_behind route packet 0 (p ∷ ps) z) e
          ∙ ap (λ z. z ∷ forwards_behind route packet 1 ps rest) (first_taken (offered route 0 packet p).offered (bits_of_taken route packet 1 ps) even.0 h packet even.1),
    )

-- what an event forwards to the host
abbrev pub to_first : Switched → SwitchEvent → List (ArrayVec ℕ)
to_first s (Arrive port packet) = if (arrived s port packet).taken % 2 == 1 then packet ∷ [] else []
to_first s (Begun port) = []
to_first s (Down port) = []

switch_is : (flow : Flow) (e : SwitchEvent) → (flow_behind flow e).switch ≡ switch_on flow.switch e
switch_is flow (Arrive port packet) = refl
switch_is flow (Begun port) = refl
switch_is flow (Down port) = refl

forwards_on : (flow : Flow) (e : SwitchEvent) (h : List (ArrayVec ℕ)) (rest : List (List (ArrayVec ℕ))) → flow.forwards ≡ h ∷ rest → 1 ≤ length flow.switch.ports →
    (others : List (List (ArrayVec ℕ))) × ((flow_behind flow e).forwards ≡ (h ++ to_first flow.switch e) ∷ others)
forwards_on flow (Arrive port packet) h rest e l = forward_first (route_of (learned_from flow.switch.learned port packet.items) port packet.items) packet flow.switch.ports flow.forwards h rest e l
forwards_on flow (Begun port) h rest e l = (rest, e ∙ ap (λ z. z ∷ rest) (sym (append-nil h)))
forwards_on flow (Down port) h rest e l = (rest, e ∙ ap (λ z. z ∷ rest) (sym (append-nil h)))

-- ---- one thing more

-- a happening at the switch of a master, marked where it is forwarded to the host, and the master's switch behind it
pub record GoesOn (l l' : Lan) (r : Happening) : Type 0 where
  pub switch : l'.switch ≡ switch_on l.switch r.event
  pub marked : handed_by r ≡ to_first l.switch r.event
  pub at_port : IsAtPort (length l.switch.ports) r.event
  pub ports : length l'.switch.ports ≡ length l.switch.ports
  pub own : l'.host ≡ l.host
  pub entered : take l'.entered l'.host ≡ take l.entered l.host ++ arrived_by 0 r.event
  pub waits : (packet : ArrayVec ℕ) → r.event ≡ Arrive 0 packet → NoneWaits l.switch

pub happened_push : (ports : ℕ) (host : List (ArrayVec ℕ)) (rows : List Happening) (l l' : Lan) (r : Happening) → 1 ≤ length l.switch.ports → GoesOn l l' r → HasHappened ports host rows l → HasHappened ports host (rows ++ r ∷ []) l'
happened_push ports host rows l l' r some g x =
    let es = events_of rows in
    let flow = switched ports es in
    let more : switched ports (events_of (rows ++ r ∷ [])) ≡ flow_behind flow r.event = ap (λ z. switched ports z) (events_push rows r) ∙ flow_push _ es r.event in
    let f = forwards_on flow r.event (handed_in rows) x.others x.handed (subst (λ (z : Switched). 1 ≤ length z.ports) (sym x.switch) some) in
    record {
      switch = ap (λ (z : Flow). z.switch) more ∙ switch_is flow r.event ∙ ap (λ z. switch_on z r.event) x.switch ∙ sym g.switch;
      others = f.0;
      handed = ap (λ (z : Flow). z.forwards) more ∙ f.1
          ∙ ap (λ z. z ∷ f.0) (ap (λ z. handed_in rows ++ to_first z r.event) x.switch ∙ ap (λ z. handed_in rows ++ z) (sym g.marked) ∙ sym (handed_push rows r));
      entered = ap (λ z. arrivals_at 0 z) (events_push rows r) ∙ arrivals_push 0 es r.event ∙ ap (λ z. z ++ arrived_by 0 r.event) x.entered ∙ sym g.entered;
      own = g.own ∙ x.own;
      at_port = subst (λ z. All (IsAtPort ports) z) (sym (events_push rows r)) (All-push (IsAtPort ports) es r.event x.at_port (subst (λ n. IsAtPort n r.event) x.many g.at_port));
      many = g.ports ∙ x.many;
      waits = λ before after packet is. waits_push _ es r.event x.waits (λ p e. subst NoneWaits (sym x.switch) (g.waits p e)) before after packet (sym (events_push rows r) ∙ is);
    }

pub happens_one : (l l' : Lan) (r : Happening) → length l'.happened ≤ length l.happened + 1 → (length l.happened < 17 → l'.happened ≡ l.happened ++ r ∷ []) → GoesOn l l' r → Happens 1 l l'
happens_one l l' r few listed g = record {
  few = few;
  goes = λ ports host rows room x.
      subst (λ z. HasHappened ports host z l') (append_assoc rows l.happened (r ∷ []) ∙ ap (λ z. rows ++ z) (sym (listed (omega arith)))) (happened_push ports host (rows ++ l.happened) l l' r l.host_port g x);
}

-- ---- before all of it

first_of : (n : ℕ) (x : List (ArrayVec ℕ)) → 1 ≤ n → (rest : List (List (ArrayVec ℕ))) × (replicate n x ≡ x ∷ rest)
first_of zero x l = absurd (omega arith)
first_of (suc n) x l = (replicate n x, refl)

-- of no events
none_before : (ports : ℕ) (before after : List SwitchEvent) (packet : ArrayVec ℕ) → [] ≡ before ++ Arrive 0 packet ∷ after → NoneWaits (switched ports before).switch
none_before ports [] after packet is = absurd (cc)
none_before ports (b ∷ before) after packet is = absurd (cc)

pub happened_none : (ports : ℕ) (host : List (ArrayVec ℕ)) (l : Lan) → 1 ≤ ports → l.switch ≡ first_switch ports → length l.switch.ports ≡ ports → l.host ≡ host → l.entered ≡ 0 → HasHappened ports host [] l
happened_none ports host l some s many h e =
    let first = first_of ports [] some in
    record { switch = sym s; others = first.0; handed = first.1; entered = sym (ap (λ n. take n l.host) e); own = h; at_port = All-nil (IsAtPort ports); many = many; waits = none_before ports }

-- ---- nothing more

-- the same switch and the same packets of the host, whatever is listed
pub record SameLan (l l' : Lan) : Type 0 where
  pub switch : l'.switch ≡ l.switch
  pub host : l'.host ≡ l.host
  pub entered : l'.entered ≡ l.entered

pub happened_same : (ports : ℕ) (host : List (ArrayVec ℕ)) (rows rows' : List Happening) (l l' : Lan) → SameLan l l' → rows' ≡ rows → HasHappened ports host rows l → HasHappened ports host rows' l'
happened_same ports host rows rows' l l' s e x = subst (λ z. HasHappened ports host z l') (sym e) (record {
  switch = x.switch ∙ sym s.switch;
  others = x.others;
  handed = x.handed;
  entered = x.entered ∙ sym (λ i. take (s.entered i) (s.host i));
  own = s.host ∙ x.own;
  at_port = x.at_port;
  many = ap (λ (z : Switched). length z.ports) s.switch ∙ x.many;
  waits = x.waits;
})

pub happens_same : (more : ℕ) (l l' : Lan) → SameLan l l' → l'.happened ≡ l.happened → Happens more l l'
happens_same more l l' s e = record {
  few = subst (λ z. length z ≤ length l.happened + more) (sym e) (omega arith);
  goes = λ ports host rows room x. happened_same ports host (rows ++ l.happened) (rows ++ l'.happened) l l' s (ap (λ z. rows ++ z) e) x;
}

pub happens_none : (more : ℕ) (l l' : Lan) → l' ≡ l → Happens more l l'
happens_none more l l' e = happens_same more l l' (record { switch = ap (λ z. z.switch) e; host = ap (λ z. z.host) e; entered = ap (λ z. z.entered) e }) (ap (λ z. z.happened) e)

-- one step of it after the other
pub happens_then : (j k : ℕ) (l m n : Lan) → Happens j l m → Happens k m n → Happens (j + k) l n
happens_then j k l m n a b = record {
  few = omega (arith, a.few, b.few);
  goes = λ ports host rows room x. b.goes ports host rows (omega (arith, a.few)) (a.goes ports host rows (omega arith) x);
}

pub happens_more : (j k : ℕ) (l m : Lan) → j ≤ k → Happens j l m → Happens k l m
happens_more j k l m le a = record {
  few = omega (arith, a.few);
  goes = λ ports host rows room x. a.goes ports host rows (omega arith) x;
}

pub happens_on : (k : ℕ) (l m n : Lan) → n ≡ m → Happens k l m → Happens k l n
happens_on k l m n e a = subst (λ z. Happens k l z) (sym e) a

pub happens_from : (k : ℕ) (l m n : Lan) → m ≡ l → Happens k m n → Happens k l n
happens_from k l m n e a = subst (λ z. Happens k z n) e a

-- a whole step, from an empty list on
pub happens_so : (k : ℕ) (l m n : Lan) → k ≤ 17 → HappensSo l m → m.happened ≡ [] → Happens k m n → HappensSo l n
happens_so k l m n le a none b = λ ports host rows x.
    b.goes ports host rows (subst (λ (z : List Happening). length z + k ≤ 17) (sym none) (omega arith)) (a ports host rows x)

pub begins_so : (l l' : Lan) → SameLan l l' → l'.happened ≡ [] → HappensSo l l'
begins_so l l' s e = λ ports host rows x. happened_same ports host rows (rows ++ l'.happened) l l' s (ap (λ z. rows ++ z) e ∙ append-nil rows) x

-- ---- the calls of the switch

-- a packet that comes in
abbrev came_row : ℕ → ArrayVec ℕ → Lan → Happening
came_row port packet l = record { event = Arrive port packet; handed = (arrived l.switch port packet).taken % 2 == 1 }

pub came_goes : (port : ℕ) (packet : ArrayVec ℕ) (l l' m : Lan) → l.switch ≡ m.switch → l.happened ≡ m.happened → l.host ≡ m.host → port < length l.switch.ports → 14 ≤ length packet.items →
    take l'.entered l'.host ≡ take m.entered m.host ++ arrived_by 0 (Arrive port packet) → (port ≡ 0 → NoneWaits m.switch) → Comes port packet l l' → Happens 1 m l'
came_goes port packet l l' m sw hs ho at long came waits c =
    happens_one m l' (came_row port packet m) (subst (λ (z : List Happening). length l'.happened ≤ length z + 1) hs c.few)
    (λ room. c.listed (subst (λ (z : List Happening). length z < 17) (sym hs) room) ∙ (λ i. hs i ++ record { event = Arrive port packet; handed = (arrived (sw i) port packet).taken % 2 == 1 } ∷ []))
    (record {
      switch = c.switch ∙ ap (λ z. (arrived z port packet).switch) sw;
      marked = refl;
      at_port = (subst (λ (z : Switched). port < length z.ports) sw at, long);
      ports = c.many ∙ ap (λ (z : Switched). length z.ports) sw;
      own = c.host ∙ ho;
      entered = came;
      waits = λ p e. let first : port ≡ 0 = cc in waits first;
    })

behind_first : (port : ℕ) → 1 ≤ port → (port == 0) ≡ false
behind_first port l = grind (arith, common_steps)

-- that of a slave is none of the host's
away : (port : ℕ) (packet : ArrayVec ℕ) → 1 ≤ port → arrived_by 0 (Arrive port packet) ≡ []
away port packet l = ap (λ (z : Bool). if z then packet ∷ [] else []) (behind_first port l)

pub from_slave : (port : ℕ) (packet : ArrayVec ℕ) (l l' : Lan) → 1 ≤ port → port < length l.switch.ports → 14 ≤ length packet.items → Comes port packet l l' → Happens 1 l l'
from_slave port packet l l' behind inside long c =
    came_goes port packet l l' l refl refl refl inside long
    ((λ i. take (c.entered i) (c.host i)) ∙ sym (append-nil (take l.entered l.host)) ∙ ap (λ z. take l.entered l.host ++ z) (sym (away port packet behind))) (λ first. absurd (omega (arith, behind, first))) c

-- the next one of the host comes in at its port, where none waits; `m` is the switch before that was counted
pub from_host : (packet : ArrayVec ℕ) (m l l' : Lan) → l.switch ≡ m.switch → l.happened ≡ m.happened → l.host ≡ m.host → l.entered ≡ m.entered + 1 → m.entered < length m.host → packet ≡ get_or m.host m.entered packet → 14 ≤ length packet.items →
    NoneWaits m.switch → Comes 0 packet l l' → Happens 1 m l'
from_host packet m l l' sw hs ho en inside is long none c =
    came_goes 0 packet l l' m sw hs ho l.host_port long
    ((λ i. take (c.entered i) (c.host i)) ∙ (λ i. take (en i) (ho i)) ∙ ap (λ n. take n m.host) (add-one m.entered) ∙ take-suc m.host m.entered packet inside ∙ ap (λ z. take m.entered m.host ++ z ∷ []) (sym is)) (λ first. none) c

-- the oldest begins, where one waits
pub begun_goes : (port : ℕ) (l l' : Lan) → port < length l.switch.ports → l'.switch ≡ begun_at l.switch port → length l'.switch.ports ≡ length l.switch.ports → l'.host ≡ l.host → l'.entered ≡ l.entered →
    length l'.happened ≤ length l.happened + 1 → (length l.happened < 17 → l'.happened ≡ l.happened ++ record { event = Begun port; handed = false } ∷ []) → Happens 1 l l'
begun_goes port l l' at s p h e few listed =
    happens_one l l' (record { event = Begun port; handed = false }) few listed
    (record { switch = s; marked = refl; at_port = at; ports = p; own = h; entered = (λ i. take (e i) (h i)) ∙ sym (append-nil (take l.entered l.host)); waits = λ p e. absurd (cc) })

-- a port goes down
pub down_goes : (port : ℕ) (l l' : Lan) → port < length l.switch.ports → l'.switch ≡ downed_at l.switch port → length l'.switch.ports ≡ length l.switch.ports → l'.host ≡ l.host → l'.entered ≡ l.entered →
    length l'.happened ≤ length l.happened + 1 → (length l.happened < 17 → l'.happened ≡ l.happened ++ record { event = Down port; handed = false } ∷ []) → Happens 1 l l'
down_goes port l l' at s p h e few listed =
    happens_one l l' (record { event = Down port; handed = false }) few listed
    (record { switch = s; marked = refl; at_port = at; ports = p; own = h; entered = (λ i. take (e i) (h i)) ∙ sym (append-nil (take l.entered l.host)); waits = λ p e. absurd (cc) })

-- where none waits nothing is taken
none_first : (q : List (ArrayVec ℕ)) → None ≡ slice_get q 0 → q ≡ []
none_first [] e = refl
none_first (x ∷ q) e = absurd (cc)

set_back : (ps : List Port) (at : ℕ) (p : Port) → slice_get ps at ≡ Some p → slice_set ps at p ≡ ps
set_back [] at p e = absurd (cc)
set_back (q ∷ ps) zero p e = let same : q ≡ p = cc in ap (λ z. z ∷ ps) (sym same)
set_back (q ∷ ps) (suc at) p e = ap (λ z. q ∷ z) (set_back ps at p e)

pub begun_none : (s : Switched) (port : ℕ) → None ≡ slice_get (queue_at s port) 0 → begun_at s port ≡ s
begun_none s port e = ap (λ z. record s { ports = z }) (go (slice_get s.ports port) refl (none_first (queue_at s port) e))
  where
    after : Port → Port
    after p = record p { queue = drop 1 p.queue }

    go : (o : Option Port) → slice_get s.ports port ≡ o → queue_of o ≡ [] → changed after s.ports port o ≡ s.ports
    go None f q = refl
    go (Some p) f q = ap (λ z. slice_set s.ports port (record p { queue = z })) (ap (λ z. drop 1 z) q ∙ sym q) ∙ set_back s.ports port p f
