use Rattle.std.proofs.Common.{◌≡◌, ◌++◌, sym, subst, ap, ◌∙◌}
use Rattle.run_report.specs.Saved.{capture_of}
use Rattle.ecmbx_call.specs.Files.{IsSaved}
use Rattle.ecmbx_call.proofs.Courses.{ok_of}
use Rattle.ecmbx_call.proofs.running.save.Goals as goal

pub returns-in-Ok-clause-saved : goal.returns-in-Ok-clause-saved
returns-in-Ok-clause-saved g c =
    let octets = ok_of c.saved.result (c.saved.new.into ≡ c.new-octets.result ++ capture_of c.as_slice.result.now) (sym c.is_err.ensures.value ∙ c.if-is_err.false) c.saved.ensures.ok in
    let whole : c.bytes.result.now ≡ capture_of c.args.book.now.frames = c.bytes.ensures ∙ octets ∙ ap (λ o. o ++ capture_of c.as_slice.result.now) c.new-octets.ensures ∙ ap capture_of c.as_slice.ensures in
    subst (λ o. IsSaved (g.F.Files.table c.args.files.now) (g.F.Files.table c.save.new.self) c.args.name.now o) whole c.in-Ok.ensures.saved
