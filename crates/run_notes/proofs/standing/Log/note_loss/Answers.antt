use Rattle.std.proofs.Common.{◌≡◌, ◌<◌, ◌++◌, ◌∷◌, [], ℕ, List, true, false, length, map, get_or, sym, ap, ◌∙◌, subst, rules, arith}
use Rattle.std.specs.Prelude.{Option, slice_get, slice_set}
use Rattle.std.proofs.lemmas.List.{length-map}
use Rattle.std.proofs.lemmas.Result.{on_ok_weaker}
use Rattle.run_book.proofs.of_master_node.Lists.{both_length}
use Rattle.run_book.proofs.of_master_node.Quiets.{told_lives}
use Rattle.run_book.specs.of_master_node.Shows.{IsLived, lived_of}
use Rattle.run_notes.specs.declared.notes.Notes.{Notes}
use Rattle.run_notes.specs.Slaves.{gaves_noted}
use Rattle.run_notes.specs.Notes.{stations_of, given_up}
use Rattle.run_notes.proofs.Gaves.{none_more, one_more, noted_at, gave_got, same_there, tells_of}
use Rattle.run_notes.proofs.Stations.{length_stations, one_noted}
use Rattle.run_notes.specs.Reports.{Reports}
use Rattle.run_notes.proofs.Heard.{same_heard}
use Rattle.run_notes.proofs.Ways.{any_ok}
use Rattle.run_notes.proofs.Reporting.{to_next, to_same, got_there, same_whole, loss_same, loss_more}
use Rattle.run_frames.specs.Steps.{LosesSo}
use Rattle.run_notes.proofs.Packets.{same_begun}
use Rattle.run_notes.proofs.Handings.{stay_same, stay_set}
use Rattle.run_notes.specs.Handed.{GoesBy}
use Rattle.run_notes.proofs.Handed.{given_goes}
use Rattle.run_notes.proofs.Times.{time_given}
use Rattle.run_notes.proofs.Timings.{keeps_set}
use Rattle.run_notes.specs.Times.{Goes, behind}
use Rattle.run_notes.proofs.standing.Log.note_loss.Goals as goal

pub returns-then-not-gave_up_more-clause-gave : goal.returns-then-not-gave_up_more-clause-gave
returns-then-not-gave_up_more-clause-gave c = λ lens leads lives all.
    let log = c.args.self.now in
    let no : c.gave_up_more.result ≡ false = search rules in
    let here = subst (λ (ns : List Notes). c.index-rows-place.result ≡ get_or ns c.args.at c.index-rows-place.result) c.as_slice-rows.ensures c.index-rows-place.is in
    none_more log.recover c.args.frame c.gave_up_more.result c.args.at leads (gaves_noted log.notes) c.index-rows-place.result.gave no all
    (tells_of log.recover c.gave_up_more.result c.len-times.result c.index-rows-place.result.gave leads c.args.at (c.len-times.ensures ∙ ap (λ (n : Notes). length n.gave) (sym c.index-rows-place.is)) (c.gave_up_more.ensures lens leads lives))
    (gave_got log.notes c.args.at c.index-rows-place.result c.requires.notes here)

pub at_mut-requires : goal.at_mut-requires
at_mut-requires c =
    let log = c.args.self.now in
    let n = length_stations log.recover log.homes log.notes (sym c.requires.homes) in
    let same = ap length log.lit in
    omega (arith, n, same, c.requires.notes, c.requires.homes)

pub invariant_of-self : goal.invariant_of-self
invariant_of-self c =
    let log = c.args.self.now in
    let here = sym (ap (λ (hs : List (ℕ × ℕ)). slice_get hs c.args.at) c.as_slice.ensures) ∙ c.home_at-home.ensures in
    record {
      lit =
          ap (λ (l : List (Option (ℕ × ℕ))). slice_set l c.args.at c.station_of.result) log.lit ∙ ap (slice_set (stations_of log.recover log.homes log.notes) c.args.at) c.station_of.ensures
          ∙ one_noted log.recover log.homes log.notes c.args.at _ c.given_up-noted.new.self here;
    }

pub returns-clause-gave : goal.returns-clause-gave
returns-clause-gave c =
    let log = c.args.self.now in
    let yes : c.gave_up_more.result ≡ true = search rules in
    let here = subst (λ (ns : List Notes). c.index-rows-place.result ≡ get_or ns c.args.at c.index-rows-place.result) c.as_slice-rows.ensures c.index-rows-place.is in
    let old = c.index-rows-place.result.gave in
    on_ok_weaker c.given_up-noted.result
    (λ is. λ lens leads lives all.
    let m = c.args.master.now in
    let inside : c.args.at < length leads = (let b = both_length (λ a s. IsLived lens log.recover a s) (map lived_of leads) m.tour.stops.items lives in let k = length-map leads lived_of in omega (arith, b, k, c.requires.notes, c.requires.posts, m.paired, m.tour.stops.ok.0)) in
    noted_at log.notes c.args.at c.given_up-noted.new.self
    ∙ ap (slice_set (gaves_noted log.notes) c.args.at)
    (ap (λ (n : Notes). n.gave) is ∙ ap (λ (g : List ℕ). g ++ c.args.frame ∷ []) (same_there log.notes c.args.at c.index-rows-place.result c.at_mut-notes.result.now c.requires.notes here c.at_mut-notes.ensures.value))
    ∙ one_more log.recover c.args.frame c.gave_up_more.result c.args.at leads (gaves_noted log.notes) old yes inside all
    (tells_of log.recover c.gave_up_more.result c.len-times.result old leads c.args.at (c.len-times.ensures ∙ ap (λ (n : Notes). length n.gave) (sym c.index-rows-place.is)) (c.gave_up_more.ensures lens leads lives))
    (gave_got log.notes c.args.at c.index-rows-place.result c.requires.notes here))
    c.given_up-noted.ensures.is

pub returns-then-not-gave_up_more-clause-told : goal.returns-then-not-gave_up_more-clause-told
returns-then-not-gave_up_more-clause-told c = λ lens as' bs told all p r.
    let log = c.args.self.now in
    let n = c.index-rows-place.result in
    let no : c.gave_up_more.result ≡ false = search rules in
    let here = subst (λ (ns : List Notes). n ≡ get_or ns c.args.at n) c.as_slice-rows.ensures c.index-rows-place.is in
    let times : c.len-times.result ≡ length n.gave = c.len-times.ensures ∙ ap (λ (m : Notes). length m.gave) (sym c.index-rows-place.is) in
    to_same (λ a b. LosesSo c.args.frame a b) c.args.at as' bs log.notes n p (got_there log.notes c.args.at n c.requires.notes here)
    (λ a b e q s. loss_same log.recover c.args.frame a b n q s bs all c.args.at e c.gave_up_more.result c.len-times.result times no (c.gave_up_more.ensures lens bs (told_lives lens log.recover bs c.args.master.now.tour.stops.items told))) r

pub returns-clause-told : goal.returns-clause-told
returns-clause-told c =
    let log = c.args.self.now in
    let n = c.index-rows-place.result in
    let d = c.at_mut-notes.result.now in
    let yes : c.gave_up_more.result ≡ true = search rules in
    let here = subst (λ (ns : List Notes). n ≡ get_or ns c.args.at n) c.as_slice-rows.ensures c.index-rows-place.is in
    let got = got_there log.notes c.args.at n c.requires.notes here in
    let lent = got_there log.notes c.args.at d c.requires.notes c.at_mut-notes.ensures.value in
    let same : d ≡ n = same_whole log.notes c.args.at n d got lent in
    let times : c.len-times.result ≡ length n.gave = c.len-times.ensures ∙ ap (λ (m : Notes). length m.gave) (sym c.index-rows-place.is) in
    on_ok_weaker c.given_up-noted.result
    (λ is. λ lens as' bs told all p r.
    to_next (λ a b. LosesSo c.args.frame a b) c.args.at as' bs log.notes n c.given_up-noted.new.self p got
    (λ a b e q s. subst (λ (z : Notes). Reports b z) (sym (is ∙ ap (λ (z : Notes). given_up z c.is_leaving-leaves.result c.args.frame) same))
    (loss_more log.recover c.args.frame a b n q s bs all c.args.at e c.gave_up_more.result c.len-times.result times yes (c.gave_up_more.ensures lens bs (told_lives lens log.recover bs c.args.master.now.tour.stops.items told)) c.is_leaving-leaves.result (c.is_leaving-leaves.ensures lens log.recover bs told))) r)
    c.given_up-noted.ensures.is

pub returns-clause-heard : goal.returns-clause-heard
returns-clause-heard c =
    any_ok c.given_up-noted.result (same_heard c.args.self.now.notes c.args.at c.at_mut-notes.result.now c.given_up-noted.new.self (c.given_up-noted.ensures.heard ∙ ap (λ (n : Notes). n.emergencies) c.at_mut-notes.ensures.value))

pub returns-clause-rows : goal.returns-clause-rows
returns-clause-rows c =
    any_ok c.given_up-noted.result (same_begun c.args.self.now.notes c.args.at c.at_mut-notes.result.now c.given_up-noted.new.self (c.given_up-noted.ensures.rows ∙ ap (λ (n : Notes). n.begun) c.at_mut-notes.ensures.value))

pub returns-then-not-gave_up_more-clause-mails : goal.returns-then-not-gave_up_more-clause-mails
returns-then-not-gave_up_more-clause-mails c = stay_same c.args.frame c.args.self.now.notes

pub returns-clause-mails : goal.returns-clause-mails
returns-clause-mails c =
    let n = c.at_mut-notes.result.now in
    on_ok_weaker c.given_up-noted.result
    (λ is. stay_set c.args.frame c.args.self.now.notes c.args.at n c.given_up-noted.new.self c.at_mut-notes.ensures.value
    (subst (λ (z : Notes). GoesBy c.args.frame [] n z) (sym is) (given_goes c.args.frame n c.is_leaving-leaves.result c.args.frame)))
    c.given_up-noted.ensures.is

pub returns-then-not-gave_up_more-clause-time : goal.returns-then-not-gave_up_more-clause-time
returns-then-not-gave_up_more-clause-time c = λ packets all. all

pub returns-clause-time : goal.returns-clause-time
returns-clause-time c =
    let t = behind c.args.frame in
    let n = c.at_mut-notes.result.now in
    on_ok_weaker c.given_up-noted.result
    (λ is. keeps_set t c.args.self.now.notes c.args.at n c.given_up-noted.new.self c.at_mut-notes.ensures.value (subst (λ (z : Notes). Goes t t n z) (sym is) (time_given c.args.frame n c.is_leaving-leaves.result)))
    c.given_up-noted.ensures.is
