use Rattle.std.proofs.Common.{◌≡◌, ◌+◌, ◌<◌, ℕ, List, ◌∷◌, length, drop, sym, ap, ◌∙◌, arith}
use Rattle.std.specs.Prelude.{codes}
use Rattle.std.proofs.lemmas.List.{at_drop_more}
use Rattle.run_book.specs.declared.book.Emergency.{Emergency}
use Rattle.run_report.specs.Report.{octets_line, emergency_lines}
use Rattle.run_report.proofs.Pushed.{pushed_more}
use Rattle.run_report.proofs.slaves.push_emergencies.Goals as goal

pub loop-row-preserved : goal.loop-row-preserved
loop-row-preserved c =
    let rows = c.args.rows.now in
    let i = c.loop-row.row-index in
    let row : Emergency = c.row-item.result in
    let line = c.in_ok-line_of_octets.field-0 in
    let rest = emergency_lines (drop (i + 1) rows) in
    let test = c.loop-row-test.true in
    let inside : i < length rows = omega (arith, test) in
    let is : line ≡ octets_line (codes "emergency ") row.octets = c.in_ok-line_of_octets.ensures ∙ ap (octets_line (codes "emergency ")) c.bytes.ensures in
    let split : emergency_lines (drop i rows) ≡ line ∷ rest =
    at_drop_more emergency_lines rows i row inside ∙ ap (λ (e : Emergency). octets_line (codes "emergency ") e.octets ∷ rest) (sym c.row-item.is) ∙ ap (λ (l : List ℕ). l ∷ rest) (sym is) in
    pushed_more c.args.into.now c.loop-row.into c.add.new.self rest (emergency_lines rows) line split c.in_ok-add.ensures.ok c.loop-row.invariant
