-- How a talk goes on where the port fails.
use Rattle.std.proofs.Common.{◌≡◌, Bool, true, false, Ok, Err, refl, sym, ap, ◌∙◌, subst, inl, inr}
use Rattle.std.specs.Prelude.{Result}
use Rattle.gateway_core.specs.of_ec_outside.declared.port.PortErr.{PortErr}
use Rattle.gateway_tool.specs.Rule.{Call}
use Rattle.gateway_tool.specs.Told.{Told}
use Rattle.gateway_tool.specs.Talk.{Lacks, SendsSo, HasHeard, WaitsSo, EndsSo, GoesSo}
use Rattle.gateway_tool.specs.declared.talk.Talk.{Talk}

-- a send, a wait or the last acknowledgement failed

unsent_by : (c : Call) (first now : Told) (t : Talk) (fault : PortErr) → SendsSo c first now t (Err fault) → GoesSo c first now t (Err fault)
unsent_by c first now t PortErr.Failed s = s
unsent_by c first now t PortErr.NoMemory s = inr s

pub went_unsent : (c : Call) (first now : Told) (t : Talk) (fault : PortErr) (r : Result (Unit {0}) PortErr) (out : Result Bool PortErr) → r ≡ Err fault → out ≡ Err fault → SendsSo c first now t r → GoesSo c first now t out
went_unsent c first now t fault r out e o s =
    subst (λ (x : Result Bool PortErr). GoesSo c first now t x) (sym o) (unsent_by c first now t fault (subst (λ (x : Result (Unit {0}) PortErr). SendsSo c first now t x) e s))

unheard_by : (c : Call) (first now : Told) (t : Talk) (fault : PortErr) → WaitsSo c first now t (Err fault) → GoesSo c first now t (Err fault)
unheard_by c first now t PortErr.Failed s = (inl s.0, s.1)
unheard_by c first now t PortErr.NoMemory s = inl s

pub went_unheard : (c : Call) (first now : Told) (t : Talk) (fault : PortErr) (r out : Result Bool PortErr) → r ≡ Err fault → out ≡ Err fault → WaitsSo c first now t r → GoesSo c first now t out
went_unheard c first now t fault r out e o s =
    subst (λ (x : Result Bool PortErr). GoesSo c first now t x) (sym o) (unheard_by c first now t fault (subst (λ (x : Result Bool PortErr). WaitsSo c first now t x) e s))

unacknowledged_by : (c : Call) (first now : Told) (t : Talk) (fault : PortErr) → (fault ≡ PortErr.Failed → ⊥) → Lacks c first now t → GoesSo c first now t (Err fault)
unacknowledged_by c first now t PortErr.Failed n s = absurd (n refl)
unacknowledged_by c first now t PortErr.NoMemory n s = inr s

pub went_unacknowledged : (c : Call) (first now : Told) (t : Talk) (fault : PortErr) (r : Result (Unit {0}) PortErr) (out : Result Bool PortErr) → r ≡ Err fault → out ≡ Err fault → (r ≡ Err PortErr.Failed → ⊥) → EndsSo c first now t r →
    GoesSo c first now t out
went_unacknowledged c first now t fault r out e o n s =
    subst (λ (x : Result Bool PortErr). GoesSo c first now t x) (sym o) (unacknowledged_by c first now t fault (λ z. n (e ∙ ap Err z)) (subst (λ (x : Result (Unit {0}) PortErr). EndsSo c first now t x) e s))

-- a datagram was heard

pub heard_at : (c : Call) (first now : Told) (t : Talk) (r : Result Bool PortErr) (b : Bool) → r ≡ Ok b → b ≡ true → WaitsSo c first now t r → HasHeard c first now t
heard_at c first now t r true e n w = subst (λ (x : Result Bool PortErr). WaitsSo c first now t x) e w
heard_at c first now t r false e n w = absurd (cc)
