use Rattle.std.proofs.Common.{◌≡◌, ◌+◌, ◌∷◌, ◌&&◌, true, false, drop, ap, sym, ◌∙◌, rules, arith}
use Rattle.std.proofs.lemmas.List.{drop_more}
use Rattle.run_record.specs.Session.{SessionState, are_at_rest}
use Rattle.run_notes.specs.Slaves.{slave_rows}
use Rattle.run_record.proofs.Rows.{rest_at}
use Rattle.run_record.proofs.session.Session.are_at_rest.Goals as goal

pub returns-then-not-is_at_rest : goal.returns-then-not-is_at_rest
returns-then-not-is_at_rest c =
    let at = c.loop-at.at in
    let s = c.args.self.now in
    let items = c.as_slice-notes-items.result.now in
    let same : items ≡ s.notes = c.as_slice-notes-items.ensures ∙ ap (λ (s : SessionState). s.notes) c.self.view_is in
    let rest = are_at_rest (slave_rows s.recover (drop (at + 1) s.ring.nodes) (drop (at + 1) s.notes)) in
    let split = ap (drop at) (sym same) ∙ drop_more items at c.notes-item.result c.loop-at-test.true ∙ ap (λ o. o ∷ drop (at + 1) items) (sym c.notes-item.is) ∙ ap (λ l. c.notes-item.result ∷ drop (at + 1) l) same in
    let no : c.is_at_rest.result ≡ false = search rules in
    sym (c.loop-at.invariant ∙ rest_at s.recover s.ring.nodes s.notes at (at + 1) c.notes-item.result (omega arith) split ∙ ap (λ b. b && rest) (sym c.is_at_rest.ensures ∙ no))

pub loop-at-preserved : goal.loop-at-preserved
loop-at-preserved c =
    let at = c.loop-at.at in
    let s = c.args.self.now in
    let items = c.as_slice-notes-items.result.now in
    let same : items ≡ s.notes = c.as_slice-notes-items.ensures ∙ ap (λ (s : SessionState). s.notes) c.self.view_is in
    let rest = are_at_rest (slave_rows s.recover (drop (at + 1) s.ring.nodes) (drop (at + 1) s.notes)) in
    let split = ap (drop at) (sym same) ∙ drop_more items at c.notes-item.result c.loop-at-test.true ∙ ap (λ o. o ∷ drop (at + 1) items) (sym c.notes-item.is) ∙ ap (λ l. c.notes-item.result ∷ drop (at + 1) l) same in
    let yes : c.is_at_rest.result ≡ true = search rules in
    c.loop-at.invariant ∙ rest_at s.recover s.ring.nodes s.notes at (at + 1) c.notes-item.result (omega arith) split ∙ ap (λ b. b && rest) (sym c.is_at_rest.ensures ∙ yes)
