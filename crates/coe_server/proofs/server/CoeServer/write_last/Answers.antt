use Rattle.std.proofs.Common.{rules, ◌≡◌, ◌≤◌, ◌-◌, length, take, drop, sym, subst, arith, length-drop, true}
use Rattle.std.proofs.lemmas.List.{take_all}
use Rattle.coe_server.specs.Serving.{IsWritten, first_message, segment_answer, is_told}
use Rattle.coe_server.proofs.Segments.{last_is}
use Rattle.coe_server.proofs.server.CoeServer.write_last.Goals as goal

pub write_octets-requires-clause-within : goal.write_octets-requires-clause-within
write_octets-requires-clause-within c =
    let s = c.args.self.now in
    let told : is_told s.room s.value s.told s.pending ≡ true = search rules in
    (last_is c.args.from (length s.value) (s.room - 9) (subst (λ p. is_told s.room s.value s.told p ≡ true) c.requires told)).0

pub returns : goal.returns
returns c =
    let s = c.args.self.now in
    let rest = drop c.args.from s.value in
    let told : is_told s.room s.value s.told s.pending ≡ true = search rules in
    let fits : length s.value - c.args.from ≤ s.room - 9 =
    (last_is c.args.from (length s.value) (s.room - 9) (subst (λ p. is_told s.room s.value s.told p ≡ true) c.requires told)).1 in
    let same : c.self.inside.room ≡ s.room = search rules in
    let whole : take (c.self.inside.room - 9) rest ≡ rest = take_all (c.self.inside.room - 9) rest (omega (arith, length-drop c.args.from s.value, fits, same)) in
    subst (λ p. IsWritten s.room (first_message s.room s.value s.told p) c.write_octets.new.body.items) (sym c.requires)
    (subst (λ l. IsWritten s.room (segment_answer c.args.toggle true l) c.write_octets.new.body.items) whole c.write_octets.ensures)
