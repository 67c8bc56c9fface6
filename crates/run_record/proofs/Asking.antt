-- The mails that are passed on.
use Rattle.std.proofs.Common.{◌≡◌, ℕ, zero, suc, ◌<◌, List, [], ◌∷◌, ◌++◌, length, map, Bool, false, refl, sym, ap, ◌∙◌, arith}
use Rattle.std.specs.Prelude.{MatchOption, slice_get, slice_set, slice_index_or, Option, Some, None, ◌↔◌}
use Rattle.packets_heard.specs.of_master_node.Lives.{waiting_at, waiting_of}
use Rattle.packets_heard.specs.of_master_node.declared.post.Post.{Post}
use Rattle.run_notes.specs.declared.standing.AskedMail.{AskedMail}
use Rattle.plan_ring.specs.of_mailbox_mail.declared.mail.Mail.{Mail}
use Rattle.run_record.specs.Session.{asked_more, asked_mail}

pub waits_so : (ps : List Post) (k : ℕ) → k < length ps → slice_get (map waiting_of ps) k ≡ Some (waiting_at ps k)
waits_so [] k inside = absurd (omega (arith, inside))
waits_so (p ∷ ps) zero inside = refl
waits_so (p ∷ ps) (suc k) inside = waits_so ps k (omega (arith, inside))

-- how many mails wait where none more is taken
pub full_so : (ps : List Post) (k : ℕ) (took : Bool) → k < length ps → ((took ≡ false) ↔ (waiting_at ps k ≡ 64)) → (took ≡ false) ↔ (slice_get (map waiting_of ps) k ≡ Some 64)
full_so ps k took inside full = (λ e. waits_so ps k inside ∙ ap Some (full.0 e), λ e. let w = waits_so ps k inside in full.1 (cc))

-- a mail behind those of a slave
asked_so : (rows : List (List AskedMail)) (k : ℕ) (mails : List AskedMail) (more : AskedMail) → k < length rows → mails ≡ slice_index_or rows k mails → slice_set rows k (mails ++ more ∷ []) ≡ asked_more rows k more
asked_so [] k mails more inside is = absurd (omega (arith, inside))
asked_so (row ∷ rows) zero mails more inside is = ap (λ (m : List AskedMail). (m ++ more ∷ []) ∷ rows) is
asked_so (row ∷ rows) (suc k) mails more inside is = ap (λ l. row ∷ l) (asked_so rows k mails more (omega (arith, inside)) is)

pub asked_on : (rows : List (List AskedMail)) (k : ℕ) (mails new : List AskedMail) (key : ℕ) (mail : Mail) (body : List ℕ) → k < length rows → mails ≡ slice_index_or rows k mails → body ≡ mail.body.items →
    new ≡ mails ++ record { key = key; kind = mail.kind; body = body } ∷ [] → slice_set rows k new ≡ asked_more rows k (asked_mail key mail)
asked_on rows k mails new key mail body inside is same put =
    ap (slice_set rows k) (put ∙ ap (λ (b : List ℕ). mails ++ record { key = key; kind = mail.kind; body = b } ∷ []) same) ∙ asked_so rows k mails (asked_mail key mail) inside is

length_more : (rows : List (List AskedMail)) (k : ℕ) (v : List AskedMail) → length (slice_set rows k v) ≡ length rows
length_more [] k v = refl
length_more (mails ∷ rows) zero v = refl
length_more (mails ∷ rows) (suc k) v = ap suc (length_more rows k v)

pub length_asked : (rows : List (List AskedMail)) (k : ℕ) (v : List AskedMail) → length (slice_set rows k v) ≡ length rows
length_asked rows k v = length_more rows k v

same_front : (a b : List AskedMail) (x y : AskedMail) → a ++ x ∷ [] ≡ b ++ y ∷ [] → a ≡ b
same_front [] [] x y is = refl
same_front [] (m ∷ []) x y is = absurd (cc)
same_front [] (m ∷ n ∷ b) x y is = absurd (cc)
same_front (m ∷ []) [] x y is = absurd (cc)
same_front (m ∷ n ∷ a) [] x y is = absurd (cc)
same_front (m ∷ a) (n ∷ b) x y is =
    let heads : m ≡ n = cc in
    let tails : a ++ x ∷ [] ≡ b ++ y ∷ [] = cc in
    let rest = same_front a b x y tails in
    cc

stands_there : (rows : List (List AskedMail)) (k : ℕ) (v d : List AskedMail) → k < length rows → slice_index_or (slice_set rows k v) k d ≡ v
stands_there [] k v d inside = absurd (omega (arith, inside))
stands_there (row ∷ rows) zero v d inside = refl
stands_there (row ∷ rows) (suc k) v d inside = stands_there rows k v d (omega (arith, inside))

set_back : (rows : List (List AskedMail)) (k : ℕ) (v mails : List AskedMail) → k < length rows → mails ≡ slice_index_or rows k mails → slice_set (slice_set rows k v) k mails ≡ rows
set_back [] k v mails inside is = absurd (omega (arith, inside))
set_back (row ∷ rows) zero v mails inside is = ap (λ (m : List AskedMail). m ∷ rows) is
set_back (row ∷ rows) (suc k) v mails inside is = ap (λ l. row ∷ l) (set_back rows k v mails (omega (arith, inside)) is)

some_left : (mails : List AskedMail) (more : AskedMail) → mails ++ more ∷ [] ≡ [] → ⊥
some_left [] more is = absurd (cc)
some_left (m ∷ mails) more is = absurd (cc)

left_so : (mails old new : List AskedMail) (more : AskedMail) (r : Option AskedMail) → old ≡ mails ++ more ∷ [] → MatchOption r (old ≡ []) (λ row. old ≡ new ++ row ∷ []) → new ≡ mails
left_so mails old new more None is last = absurd (some_left mails more (sym is ∙ last))
left_so mails old new more (Some row) is last = same_front new mails row more (sym last ∙ is)

-- the mail that was put last is taken back
pub taken_back : (rows : List (List AskedMail)) (k : ℕ) (mails pushed old new : List AskedMail) (more : AskedMail) (r : Option AskedMail) → k < length rows → mails ≡ slice_index_or rows k mails → pushed ≡ mails ++ more ∷ [] →
    old ≡ slice_index_or (slice_set rows k pushed) k old → MatchOption r (old ≡ []) (λ row. old ≡ new ++ row ∷ []) → slice_set (slice_set rows k pushed) k new ≡ rows
taken_back rows k mails pushed old new more r inside is put stands last =
    let same : new ≡ mails = left_so mails old new more r (stands ∙ stands_there rows k pushed old inside ∙ put) last in
    ap (slice_set (slice_set rows k pushed) k) same ∙ set_back rows k pushed mails inside is
