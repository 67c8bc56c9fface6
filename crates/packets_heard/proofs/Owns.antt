-- Each slave of a plan that serves EoE has a port of its own.
use Rattle.std.proofs.Common.{◌≡◌, ◌≤◌, ◌<◌, ℕ, zero, suc, ◌+◌, Bool, true, false, Option, Some, List, [], ◌∷◌, refl, sym, ap, arith}
use Rattle.std.specs.Prelude.{slice_get}
use Rattle.slave_server.specs.of_segment_plan.declared.slave.SlaveSpec.{SlaveSpec}
use Rattle.master_node.specs.Forwards.{port_by}
use Rattle.master_node.specs.Ports.{port_where, last_where, ports_behind}
use Rattle.packets_heard.specs.Listed.{IsOwn}

-- the port of the slave at a place
abbrev port_of : ℕ → List SlaveSpec → ℕ → Option ℕ
port_of last ss k = port_by (slice_get (ports_behind last ss) k)

here : (serves : Bool) (last port : ℕ) → port_where serves last ≡ Some port → port ≡ last + 1
here true last port e = let same : last + 1 ≡ port = cc in sym same
here false last port e = absurd (cc)

no_less : (serves : Bool) (last : ℕ) → last ≤ last_where serves last
no_less true last = omega arith
no_less false last = omega arith

-- it is behind those before
above : (ss : List SlaveSpec) (last k port : ℕ) → port_of last ss k ≡ Some port → last < port
above [] last k port e = absurd (cc)
above (s ∷ ss) last zero port e = let is = here s.eoe last port e in omega (arith, is)
above (s ∷ ss) last (suc k) port e = let more = above ss (last_where s.eoe last) k port e in let less = no_less s.eoe last in omega (arith, more, less)

-- so is the next slave's, where this one has one
passed : (serves : Bool) (ss : List SlaveSpec) (last k port : ℕ) → port_where serves last ≡ Some port → port_of (last_where serves last) ss k ≡ Some port → ⊥
passed true ss last k port e f = let is = here true last port e in let more = above ss (last + 1) k port f in omega (arith, is, more)
passed false ss last k port e f = absurd (cc)

alone : (ss : List SlaveSpec) (last k q port : ℕ) → port_of last ss k ≡ Some port → port_of last ss q ≡ Some port → q ≡ k
alone [] last k q port e f = absurd (cc)
alone (s ∷ ss) last zero zero port e f = refl
alone (s ∷ ss) last zero (suc q) port e f = absurd (passed s.eoe ss last q port e f)
alone (s ∷ ss) last (suc k) zero port e f = absurd (passed s.eoe ss last k port f e)
alone (s ∷ ss) last (suc k) (suc q) port e f = ap suc (alone ss (last_where s.eoe last) k q port e f)

pub own_port : (ss : List SlaveSpec) (k port : ℕ) → port_of 0 ss k ≡ Some port → IsOwn (ports_behind 0 ss) k port
own_port ss k port e = record { has = e; alone = λ q f. alone ss 0 k q port e f; behind = above ss 0 k port e }
