use Rattle.std.proofs.Common.{◌≡◌, ◌≤◌, ◌-◌, ◌++◌, ℕ, List, length, take, ap, ◌∙◌, arith}
use Rattle.soe_parts.specs.of_soe_codec.View.{soe_seen}
use Rattle.idn_table.specs.of_protocol_models.SoeServer.{ahead}
use Rattle.soe_server.specs.Serving.{Serving, join_of}
use Rattle.soe_server.proofs.Joins.{kept_first}
use Rattle.soe_server.proofs.server.SoeServer.gather.Goals as goal

pub returns : goal.returns
returns c =
    let octets : List ℕ = c.args.message.bytes.now in
    let front : List ℕ = ahead (join_of c.args.self.now) (soe_seen c.args.message) in
    let here : c.self.inside.value.octets ≡ front = ap (λ (t : Serving). t.value) (c.self.view_is ∙ c.keep_ahead.ensures) in
    let seen : c.bytes.result.now ≡ front = c.bytes.ensures.octets ∙ here in
    let few : length front ≤ 16384 = omega (arith, ap length here, c.bytes.ensures.within, c.self.invariant.2) in
    let back : c.upto.result.now ≡ take (16384 - length front) octets = c.upto.ensures ∙ ap (λ (l : List ℕ). take (16384 - length l) octets) seen in
    c.append.ensures
    ∙ ap (λ (t : Serving). record t { value = t.value ++ c.upto.result.now }) c.keep_ahead.ensures
    ∙ ap (λ (l : List ℕ). record c.args.self.now { value = front ++ l }) back
    ∙ ap (λ (l : List ℕ). record c.args.self.now { value = l }) (kept_first 16384 front octets few)
