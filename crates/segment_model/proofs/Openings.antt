-- The frames of bring-up tell nothing of mails.
use Rattle.std.proofs.Common.{◌≡◌, ℕ, ◌==◌, Bool, true, false, List, [], ◌∷◌, ◌++◌, map, refl, ap, ◌∙◌, if◌then◌else◌}
use Rattle.segment_model.specs.Slaves.{Datagram, grams}
use Rattle.segment_model.specs.Record.{Frame, News, Kept, is_for, gram_news, found_news, last_heard, last_told, mail_told, all_told, told_behind, back_news, heard_behind, frame_news, kept_after, kept_all, nothing_kept, news_each, mails_heard, joined, heard}
use Rattle.segment_model.specs.Seats.{NoMailbox, IsOpening}
use Rattle.segment_model.proofs.News.{mails_heard-append, heard_told, heard_found}

quiet_told : {M : Type 0} (station last : ℕ) (ds : List (Datagram M)) → NoMailbox ds → (all_told station last (grams ds) ≡ []) × (told_behind station last (grams ds) ≡ last)
quiet_told station last [] n = (refl, refl)
quiet_told station last (d ∷ ds) n =
    let rest = quiet_told station last ds n.1 in
    let b = d.gram.station == station in (
      ap (λ ask. (if b then mail_told last ask else []) ++ all_told station (if b then last_told last ask else last) (grams ds)) n.0 ∙ told b ∙ rest.0,
      ap (λ ask. told_behind station (if b then last_told last ask else last) (grams ds)) n.0 ∙ behind b ∙ rest.1,
    )
  where
    told : (b : Bool) → (if b then [] else []) ++ all_told station (if b then last else last) (grams ds) ≡ all_told station last (grams ds)
    told true = refl
    told false = refl

    behind : (b : Bool) → told_behind station (if b then last else last) (grams ds) ≡ told_behind station last (grams ds)
    behind true = refl
    behind false = refl

quiet_back : {M : Type 0} (station last : ℕ) (ds : List (Datagram M)) → NoMailbox ds → (mails_heard (back_news station last ds) ≡ []) × (heard_behind station last ds ≡ last)
quiet_back station last [] n = (refl, refl)
quiet_back {M} station last (d ∷ ds) n =
    let rest = quiet_back station last ds n.1 in
    let b = d.gram.station == station in (
      ap (λ ask. mails_heard (((if b then gram_news last ask d.gram else []) ++ found) ++ back_news station (if b then last_heard last ask d.gram else last) ds)) n.0 ∙ heard_of b
          ∙ mails_heard-append found (back_news station last ds) ∙ ap (λ l. l ++ mails_heard (back_news station last ds)) (heard_found {M = M} (is_for station d.address) (d.counter == 0) d.found) ∙ rest.0,
      ap (λ ask. heard_behind station (if b then last_heard last ask d.gram else last) ds) n.0 ∙ behind b ∙ rest.1,
    )
  where
    found : List (News M)
    found = if is_for station d.address then (if d.counter == 0 then [] else found_news d.found) else []

    heard_of : (b : Bool) → mails_heard (((if b then [] else []) ++ found) ++ back_news station (if b then last else last) ds) ≡ mails_heard (found ++ back_news station last ds)
    heard_of true = refl
    heard_of false = refl

    behind : (b : Bool) → heard_behind station (if b then last else last) ds ≡ heard_behind station last ds
    behind true = refl
    behind false = refl

quiet_kept : {M : Type 0} (station : ℕ) (kept : Kept) (f : Frame M) → NoMailbox f.sent → NoMailbox f.back → kept_after station kept f ≡ kept
quiet_kept station kept f s b =
    let told = (quiet_told station kept.told f.sent s).1 in
    let heard = (quiet_back station kept.heard f.back b).1 in
    λ i. record { told = told i; heard = heard i }

pub opening_kept : {M : Type 0} (station : ℕ) (fs : List (Frame M)) → IsOpening fs → kept_all station nothing_kept fs ≡ nothing_kept
opening_kept station [] o = refl
opening_kept station (f ∷ fs) o = ap (λ k. kept_all station k fs) (quiet_kept station nothing_kept f o.0.0 o.0.1) ∙ opening_kept station fs o.1

pub opening_heard : {M : Type 0} (station : ℕ) (fs : List (Frame M)) → IsOpening fs → heard station fs ≡ []
opening_heard station [] o = refl
opening_heard {M} station (f ∷ fs) o =
    mails_heard-append (frame_news station nothing_kept f) (joined (news_each station (kept_after station nothing_kept f) fs))
    ∙ ap (λ l. l ++ mails_heard (joined (news_each station (kept_after station nothing_kept f) fs))) quiet
    ∙ ap (λ k. mails_heard (joined (news_each station k fs))) (quiet_kept station nothing_kept f o.0.0 o.0.1) ∙ opening_heard station fs o.1
  where
    ts : List M
    ts = all_told station 0 (grams f.sent)

    quiet : mails_heard (frame_news station nothing_kept f) ≡ []
    quiet = mails_heard-append (map (λ m. News.Told m) ts) (back_news station 0 f.back) ∙ ap (λ l. l ++ mails_heard (back_news station 0 f.back)) (heard_told ts) ∙ (quiet_back station 0 f.back o.0.1).0
