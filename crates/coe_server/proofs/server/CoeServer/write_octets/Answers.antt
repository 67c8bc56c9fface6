use Rattle.std.proofs.Common.{rules, ◌≡◌, ◌-◌, [], ◌∷◌, ◌++◌, length, take, drop, min, replicate, ap, ◌∙◌, arith, length-drop}
use Rattle.std.proofs.lemmas.List.{length-take}
use Rattle.coe_server.proofs.Segments.{segment_written}
use Rattle.coe_server.proofs.server.CoeServer.write_octets.Goals as goal

pub returns : goal.returns
returns c =
    let s = c.args.self.now in
    let rest = drop c.args.from s.value in
    let most = c.args.most in
    let bytes = take most rest in
    let unused = c.unused-unused.result in
    let command = c.segment_command.result in
    let left : length rest ≡ length s.value - c.args.from = length-drop c.args.from s.value in
    let len : length bytes ≡ min most (length rest) = length-take most rest in
    let front : c.refill.new.buffer.items ≡ 0 ∷ 48 ∷ command ∷ [] = search rules in
    let filled : c.append_to.new.into.items ≡ c.refill.new.buffer.items ++ bytes = search rules in
    let whole : c.append.new.buffer.items ≡ c.append_to.new.into.items ++ take unused (replicate 7 0) = search rules in
    segment_written s.room c.args.toggle c.args.last bytes c.append.new.buffer.items unused command
    c.unused-unused.ensures.unused c.segment_command.ensures
    (whole ∙ ap (λ l. l ++ take unused (replicate 7 0)) (filled ∙ ap (λ l. l ++ bytes) front))
    (omega (arith, left, len, c.requires.within, c.requires.some)) (omega (arith, len, c.requires.fits))
