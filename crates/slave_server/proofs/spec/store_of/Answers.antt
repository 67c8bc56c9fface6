use Rattle.std.proofs.Common.{ℕ, ◌≡◌, ◌<◌, ◌∙◌, List, length, get_or, subst, ap}
use Rattle.segment_plan.specs.of_file_store.declared.file.FileSpec.{FileSpec}
use Rattle.slave_server.proofs.Files.{next_fits, takes_more}
use Rattle.slave_server.specs.Spec.{with_file}
use Rattle.slave_server.proofs.spec.store_of.Goals as goal

pub add_file-requires-clause-fits : goal.add_file-requires-clause-fits
add_file-requires-clause-fits c =
    let same = c.as_slice-file-items.ensures in
    let lt = subst (λ (fs : List (FileSpec × List ℕ)). c.loop-file.file-index < length fs) same c.loop-file-test.true in
    let is = subst (λ (fs : List (FileSpec × List ℕ)). c.loop-file-item.result ≡ get_or fs c.loop-file.file-index c.loop-file-item.result) same c.loop-file-item.is in
    rw c.bytes.ensures (next_fits c.args.spec.now.files c.args.spec.now.blocks c.loop-file.file-index c.loop-file-item.result lt is c.loop-file.store c.loop-file.invariant)

pub loop-file-preserved : goal.loop-file-preserved
loop-file-preserved c =
    let same = c.as_slice-file-items.ensures in
    let lt = subst (λ (fs : List (FileSpec × List ℕ)). c.loop-file.file-index < length fs) same c.loop-file-test.true in
    let is = subst (λ (fs : List (FileSpec × List ℕ)). c.loop-file-item.result ≡ get_or fs c.loop-file.file-index c.loop-file-item.result) same c.loop-file-item.is in
    takes_more c.args.spec.now.files c.args.spec.now.blocks c.loop-file.file-index c.loop-file-item.result lt is c.loop-file.store c.loop-file.invariant c.add_file.new.store
    (c.in_ok-add_file.ensures ∙ ap (λ l. record c.loop-file.store { kept = with_file (c.loop-file-item.result.0, l) c.loop-file.store.kept }) c.bytes.ensures)
