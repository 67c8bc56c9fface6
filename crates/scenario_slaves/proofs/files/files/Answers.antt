use Rattle.std.proofs.Common.{List, ℕ, ◌+◌, [], ◌∷◌, ◌++◌, map, length, sym, subst}
use Rattle.std.proofs.lemmas.Result.{err_from_is_err_and}
use Rattle.std.proofs.lemmas.List.Sums.{sum_by_push}
use Rattle.toml.specs.View.{table_view}
use Rattle.scenario_values.specs.of_block_pool.Region.{blocks_for}
use Rattle.scenario_values.specs.of_file_store.declared.file.FileSpec.{FileSpec}
use Rattle.scenario_values.specs.of_scenario_keys.declared.place.Place.TheVariants.{File}
use Rattle.scenario_values.specs.of_segment_plan.Sound.{IsFile}
use Rattle.scenario_slaves.specs.Files.{file_of}
use Rattle.scenario_slaves.proofs.NewFiles.{are_new_files-push}
use Rattle.scenario_values.proofs.of_scenario_keys.Each.{HasRead, goes_on, ends}
use Rattle.scenario_slaves.proofs.files.files.Goals as goal

pub returns-in_err-row-clause-gives : goal.returns-in_err-row-clause-gives
returns-in_err-row-clause-gives c =
    let p = err_from_is_err_and c.from_residual.result c.from_residual.ensures.1 in
    rw (p.1, p.2) (ends IsFile (λ before (y : FileSpec × List ℕ). before ++ y ∷ []) (λ k before ms. file_of c.args.blocks before (File c.args.slave k) ms) [] (λ t. table_view t.now) c.args.tables.now c.loop-i.i c.loop-i.rows c.loop-i.rows c.index-tables-i.result c.in_err-row.field-0.0 c.loop-i-test.true c.index-tables-i.is (rw c.as_slice.ensures at c.in_err-row.ensures.gives) c.loop-i.invariant.0)

pub loop-i-preserved : goal.loop-i-preserved
loop-i-preserved c = (
  subst (λ (state : List (FileSpec × List ℕ)). HasRead IsFile (λ before (y : FileSpec × List ℕ). before ++ y ∷ []) (λ k before ms. file_of c.args.blocks before (File c.args.slave k) ms) [] (map (λ t. table_view t.now) c.args.tables.now) (c.loop-i.i + 1) state c.put.new.rows) (sym c.in_ok-put.ensures.ok)
      (goes_on IsFile (λ before (y : FileSpec × List ℕ). before ++ y ∷ []) (λ k before ms. file_of c.args.blocks before (File c.args.slave k) ms) [] (λ t. table_view t.now) c.args.tables.now c.loop-i.i c.loop-i.rows c.loop-i.rows c.index-tables-i.result c.in_ok-row.row c.put.new.rows c.loop-i-test.true c.index-tables-i.is (rw c.as_slice.ensures at c.in_ok-row.ensures.gives) c.in_ok-row.ensures.sound c.in_ok-put.ensures.ok c.loop-i.invariant.0),
  rw (c.in_ok-put.ensures.ok, sum_by_push (λ (f : FileSpec × List ℕ). blocks_for (length f.1)) c.loop-i.rows c.in_ok-row.row) (rw c.as_slice.ensures at c.in_ok-row.ensures.fits),
  rw c.in_ok-put.ensures.ok (are_new_files-push [] c.loop-i.rows c.in_ok-row.row c.loop-i.invariant.2 (rw c.as_slice.ensures at c.in_ok-row.ensures.new)),
)
