-- Frames that carry nothing for a slave tell nothing of it, so its outcomes are those of the frames before.
use Rattle.std.proofs.Common.{◌≡◌, ℕ, suc, ◌+◌, ◌≤◌, ◌==◌, ◌||◌, Bool, true, false, Option, Some, None, option_map, List, [], ◌∷◌, ◌++◌, map, length, refl, ap, sym, ◌∙◌, arith, append_assoc, append-nil, length-append, if◌then◌else◌}
use Rattle.exchange_model.specs.Exchange.{Exchange, IsLawful}
use Rattle.exchange_model.specs.Rows.{answer_after}
use Rattle.segment_model.specs.Slaves.{Datagram, grams}
use Rattle.segment_model.specs.Record.{Frame, News, Kept, first_end, or_later, news_from, frame_news, all_told, back_news, gram_news, found_news, last_heard, last_told, mail_told, is_for, joined}
use Rattle.segment_model.specs.Ends.{Task, Outcome, ends, mails_end}
use Rattle.segment_model.specs.GiveUps.{carries, NoneFor}
use Rattle.segment_model.proofs.Answers.{first_end-push, news_from-push, kept_of}

parts : (a b c : Bool) → (a || b) || c ≡ false → (a ≡ false) × (b ≡ false) × (c ≡ false)
parts false false false e = (refl, refl, refl)
parts true b c e = absurd (cc)
parts false true c e = absurd (cc)
parts false false true e = absurd (cc)

quiet_told : {M : Type 0} (station last : ℕ) (ds : List (Datagram M)) → carries station ds ≡ false → all_told station last (grams ds) ≡ []
quiet_told station last [] e = refl
quiet_told station last (d ∷ ds) e =
    let p = parts (d.gram.station == station) (is_for station d.address) (carries station ds) e in
    ap (λ b. (if b then mail_told last d.gram.ask else []) ++ all_told station (if b then last_told last d.gram.ask else last) (grams ds)) p.0 ∙ quiet_told station last ds p.2

quiet_back : {M : Type 0} (station last : ℕ) (ds : List (Datagram M)) → carries station ds ≡ false → back_news station last ds ≡ []
quiet_back station last [] e = refl
quiet_back station last (d ∷ ds) e =
    let p = parts (d.gram.station == station) (is_for station d.address) (carries station ds) e in
    ap (λ b. ((if b then gram_news last d.gram.ask d.gram else []) ++ (if is_for station d.address then (if d.counter == 0 then [] else found_news d.found) else [])) ++ back_news station (if b then last_heard last d.gram.ask d.gram else last) ds) p.0
    ∙ ap (λ b. (if b then (if d.counter == 0 then [] else found_news d.found) else []) ++ back_news station last ds) p.1
    ∙ quiet_back station last ds p.2

quiet_frame : {M : Type 0} (station : ℕ) (kept : Kept) (f : Frame M) → carries station f.sent ≡ false → carries station f.back ≡ false → frame_news station kept f ≡ []
quiet_frame station kept f s b =
    ap (λ l. map (λ m. News.Told m) l ++ back_news station kept.heard f.back) (quiet_told station kept.told f.sent s) ∙ quiet_back station kept.heard f.back b

-- where nothing was completed, all news together complete nothing
tested : {N R : Type 0} (e : List N → Option R) (f : ℕ) (before : List N) (nss : List (List N)) → e before ≡ None → first_end e f before nss ≡ None → e (before ++ joined nss) ≡ None
tested e f before [] h none = ap e (append-nil before) ∙ h
tested {R = R} e f before (ns ∷ nss) h none = ap e (sym (append_assoc before ns (joined nss))) ∙ go (e (before ++ ns)) refl none (λ p q. tested e (suc f) (before ++ ns) nss p q)
  where
    go : (r : Option R) → e (before ++ ns) ≡ r → or_later r f (first_end e (suc f) (before ++ ns) nss) ≡ None → (e (before ++ ns) ≡ None → first_end e (suc f) (before ++ ns) nss ≡ None → e ((before ++ ns) ++ joined nss) ≡ None) → e ((before ++ ns) ++ joined nss) ≡ None
    go None p none more = more p none
    go (Some r) p none more = absurd (let bad : Some (r, f) ≡ None = none in cc)

pub quiet_push : {M R : Type 0} (e : List (News M) → Option R) → e [] ≡ None → (station frame : ℕ) (fs : List (Frame M)) (f : Frame M) → frame ≤ length fs → carries station f.sent ≡ false → carries station f.back ≡ false →
    first_end e frame [] (news_from station frame (fs ++ f ∷ [])) ≡ first_end e frame [] (news_from station frame fs)
quiet_push {R = R} e none station frame fs f le s b =
    ap (first_end e frame []) (news_from-push station frame fs f le ∙ ap (λ l. news_from station frame fs ++ l ∷ []) (quiet_frame station (kept_of station fs) f s b))
    ∙ first_end-push e frame [] (news_from station frame fs) []
    ∙ go (first_end e frame [] (news_from station frame fs)) refl
  where
    all : Option R
    all = e ([] ++ joined (news_from station frame fs) ++ [])

    go : (old : Option (R × ℕ)) → first_end e frame [] (news_from station frame fs) ≡ old → answer_after (frame + length (news_from station frame fs)) old all ≡ old
    go None p = ap (answer_after (frame + length (news_from station frame fs)) None) (ap e (append-nil _) ∙ tested e frame [] (news_from station frame fs) none p)
    go (Some a) p = refl

pub quiet_frames : {M R : Type 0} (e : List (News M) → Option R) → e [] ≡ None → (station frame : ℕ) (front behind : List (Frame M)) → frame ≤ length front → NoneFor station behind →
    first_end e frame [] (news_from station frame (front ++ behind)) ≡ first_end e frame [] (news_from station frame front)
quiet_frames e none station frame front [] le n = ap (λ fs. first_end e frame [] (news_from station frame fs)) (append-nil front)
quiet_frames e none station frame front (f ∷ fs) le n =
    let longer : frame ≤ length (front ++ f ∷ []) = let l = length-append front (f ∷ []) in omega (arith, l, le) in
    ap (λ gs. first_end e frame [] (news_from station frame gs)) (sym (append_assoc front (f ∷ []) fs))
    ∙ quiet_frames e none station frame (front ++ f ∷ []) fs longer n.1
    ∙ quiet_push e none station frame front f le n.0.0 n.0.1

-- no news complete nothing
pub ends_none : {V A M Q R : Type 0} (x : Exchange V A M Q R) → IsLawful x → (more : M → Bool) (task : Task M Q) → ends x.speech more task [] ≡ None
ends_none x law more (Task.Mails q) = go (x.speech.handed q)
  where
    go : (b : Bool) → mails_end x.speech q b [] ≡ None
    go true = refl
    go false = ap (λ r. option_map (λ r. Outcome.Replied r) r) (law.none q)
ends_none x law more (Task.State target) = refl
ends_none x law more (Task.Passed m) = refl
