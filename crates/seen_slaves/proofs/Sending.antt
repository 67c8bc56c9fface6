-- How far a mail that is passed on is told, by the news of a frame.
use Rattle.std.proofs.Common.{◌≡◌, ◌≢◌, ℕ, ◌==◌, ◌&&◌, Bool, true, false, not, Option, Some, None, option_map, List, [], ◌∷◌, ◌++◌, map, refl, sym, ap, ◌∙◌, subst, arith, if◌then◌else◌, inl, inr}
use Rattle.std.specs.Prelude.{◌⊎◌, ⊤}
use Rattle.std.proofs.lemmas.Bool.Decides.{nat_tests}
use Rattle.idle_slaves.specs.of_exchange_model.Exchange.{Speech}
use Rattle.idle_slaves.specs.of_exchange_model.Rows.{Row, row_heard}
use Rattle.idle_slaves.specs.of_life_model.Lives.{passes}
use Rattle.idle_slaves.specs.of_link_model.Counters.{next_counter}
use Rattle.idle_slaves.specs.of_link_model.Mails.{LinkMail, news}
use Rattle.served_rings.proofs.of_few_replies.Passings.{sends, skips}
use Rattle.idle_slaves.specs.of_segment_model.Ends.{Passing, passing_after}
use Rattle.idle_slaves.specs.of_segment_model.Record.{News}
use Rattle.idle_slaves.specs.of_segment_model.Seats.{Side}
use Rattle.served_rings.proofs.of_segment_model.Posts.{IsFresh, KeptOut}
use Rattle.served_rings.proofs.of_segment_model.Written.{Tells, has_written, mails_told}
use Rattle.seen_slaves.specs.Told.{NoneTold}

-- HOW FAR IT IS TOLD: while it waits nothing was told of its row, or its mail wasn't sent yet; and once that was sent it is held until its write is done
abbrev pub StageBy : {M Q R : Type 0} → Option Passing → Side M Q R → Type 0
StageBy None d = ⊤
StageBy (Some Passing.Waiting) d = NoneTold d.now ⊎ (d.fresh ≡ true)
StageBy (Some Passing.Sent) d = d.halves.out.holding ≢ None
StageBy (Some Passing.Boxed) d = ⊤
StageBy (Some Passing.Served) d = ⊤
StageBy (Some Passing.Answered) d = ⊤

-- a mail with the next counter is new
not_same : (k : ℕ) → (next_counter k == k) ≡ false
not_same k = grind (arith, nat_tests)

news_next : {M : Type 0} (kept : ℕ) (m : LinkMail M) → m.counter ≡ next_counter kept → news kept (Some m) ≡ m.body ∷ []
news_next kept m e = go (m.counter == 0) (m.counter == kept) (ap (λ c. c == kept) e ∙ not_same kept)
  where
    go : (z l : Bool) → l ≡ false → (if not z && l then [] else m.body ∷ []) ≡ m.body ∷ []
    go true l f = refl
    go false false f = refl
    go false true f = absurd (let bad : true ≡ false = f in cc)

-- what was heard tells nothing of a row
pub untold_heard : {M Q R : Type 0} (x : Speech M Q R) (frame : ℕ) (ms : List M) (now : Option (Row M Q R)) → NoneTold now → NoneTold (option_map (λ r. row_heard x frame ms r) now)
untold_heard x frame ms None k = k
untold_heard x frame ms (Some r) k = k

module _ {M Q R : Type 0} (x : Speech M Q R) (acknowledged : Q → Bool) (more : M → Bool) (passed : Q → Bool) where
  abbrev by : Option Passing → List (News M) → Option Passing
  by o ns = passes x acknowledged more passed o ns

  -- ---- one that mailbox 0 has taken
  abbrev Late : Option Passing → Type 0
  Late None = ⊤
  Late (Some Passing.Waiting) = ⊥
  Late (Some Passing.Sent) = ⊥
  Late (Some Passing.Boxed) = ⊤
  Late (Some Passing.Served) = ⊤
  Late (Some Passing.Answered) = ⊤

  heard_late : (p : Passing) → Late (Some p) → (b c : Bool) → Late (if b then Some p else if c then Some Passing.Answered else None)
  heard_late p k true c = k
  heard_late p k false true = tt
  heard_late p k false false = tt

  served_late : (b c : Bool) → Late (if b then None else if c then Some Passing.Answered else None)
  served_late true c = tt
  served_late false true = tt
  served_late false false = tt

  step_late : (p : Passing) (n : News M) → Late (Some p) → Late (passing_after x.emission more p n)
  step_late Passing.Waiting n k = absurd k
  step_late Passing.Sent n k = absurd k
  step_late Passing.Boxed (News.Told m) k = tt
  step_late Passing.Boxed News.Written k = tt
  step_late Passing.Boxed News.NothingRead k = tt
  step_late Passing.Boxed (News.BoxFull true) k = tt
  step_late Passing.Boxed (News.BoxFull false) k = tt
  step_late Passing.Boxed (News.Status state refused) k = tt
  step_late Passing.Boxed (News.Heard m) k = heard_late Passing.Boxed tt (x.emission m) (more m)
  step_late Passing.Served (News.Told m) k = tt
  step_late Passing.Served News.Written k = tt
  step_late Passing.Served News.NothingRead k = tt
  step_late Passing.Served (News.BoxFull full) k = tt
  step_late Passing.Served (News.Status state refused) k = tt
  step_late Passing.Served (News.Heard m) k = served_late (x.emission m) (more m)
  step_late Passing.Answered (News.Told m) k = tt
  step_late Passing.Answered News.Written k = tt
  step_late Passing.Answered News.NothingRead k = tt
  step_late Passing.Answered (News.BoxFull full) k = tt
  step_late Passing.Answered (News.Status state refused) k = tt
  step_late Passing.Answered (News.Heard m) k = heard_late Passing.Answered tt (x.emission m) (more m)

  late : (o : Option Passing) (ns : List (News M)) → Late o → Late (by o ns)
  late None ns k = tt
  late (Some p) [] k = k
  late (Some p) (n ∷ ns) k = late (passing_after x.emission more p n) ns (step_late p n k)

  -- ---- one that isn't told yet, by news that tell nothing; and one that was sent
  module _ (P : Option Passing → Type 0) (over : (o : Option Passing) → Late o → P o) where
    -- a mail that was heard
    by_mail : (p : Passing) (ns : List (News M)) → P (by (Some p) ns) → (b c : Bool) → P (by (if b then Some p else if c then Some Passing.Answered else None) ns)
    by_mail p ns k true c = k
    by_mail p ns k false true = over (by (Some Passing.Answered) ns) (late (Some Passing.Answered) ns tt)
    by_mail p ns k false false = over None tt

    waiting : P (Some Passing.Waiting) → (ns : List (News M)) → mails_told ns ≡ [] → P (by (Some Passing.Waiting) ns)
    waiting w [] t = w
    waiting w (News.Told m ∷ ns) t = absurd (let bad : m ∷ mails_told ns ≡ [] = t in cc)
    waiting w (News.Written ∷ ns) t = waiting w ns t
    waiting w (News.NothingRead ∷ ns) t = waiting w ns t
    waiting w (News.BoxFull full ∷ ns) t = waiting w ns t
    waiting w (News.Status state refused ∷ ns) t = waiting w ns t
    waiting w (News.Heard m ∷ ns) t = by_mail Passing.Waiting ns (waiting w ns t) (x.emission m) (more m)

    sent : (ns : List (News M)) → (has_written ns ≡ false → P (Some Passing.Sent)) → P (by (Some Passing.Sent) ns)
    sent [] w = w refl
    sent (News.Told m ∷ ns) w = sent ns w
    sent (News.Written ∷ ns) w = over (by (Some Passing.Boxed) ns) (late (Some Passing.Boxed) ns tt)
    sent (News.NothingRead ∷ ns) w = sent ns w
    sent (News.BoxFull full ∷ ns) w = sent ns w
    sent (News.Status state refused ∷ ns) w = sent ns w
    sent (News.Heard m ∷ ns) w = by_mail Passing.Sent ns (sent ns w) (x.emission m) (more m)

  -- ---- A FRAME from the side `d` to `k`, by what it told of the mail held and by what it brought
  module _ (d k : Side M Q R) (ns : List (News M)) (nothing : mails_told ns ≡ []) (untold : NoneTold d.now → NoneTold k.now) (frees : k.halves.out.holding ≡ (if has_written ns then None else d.halves.out.holding)) where
    of_late : (o : Option Passing) → Late o → StageBy o k
    of_late None e = tt
    of_late (Some Passing.Waiting) e = absurd e
    of_late (Some Passing.Sent) e = absurd e
    of_late (Some Passing.Boxed) e = tt
    of_late (Some Passing.Served) e = tt
    of_late (Some Passing.Answered) e = tt

    waits : StageBy (Some Passing.Waiting) k → StageBy (by (Some Passing.Waiting) ns) k
    waits w = waiting (λ o. StageBy o k) of_late w ns nothing

    goes : d.halves.out.holding ≢ None → StageBy (by (Some Passing.Sent) ns) k
    goes some = sent (λ o. StageBy o k) of_late ns (λ no free. some (sym (frees ∙ ap (λ (b : Bool). if b then None else d.halves.out.holding) no) ∙ free))

    -- all that is told of it goes first
    told_first : d.halves.out.holding ≢ None → (ts : List M) → (ts ≡ [] → StageBy (Some Passing.Waiting) k) → StageBy (by (Some Passing.Waiting) (map (λ m. News.Told m) ts ++ ns)) k
    told_first some [] w = waits (w refl)
    told_first some (t ∷ ts) w = subst (λ o. StageBy o k) (sym (sends x acknowledged more passed t ts ns)) (goes some)

    fresh_told : (kept last : ℕ) (m : LinkMail M) → d.halves.out.holding ≡ Some m → KeptOut true d.halves.out.holding last kept → news kept (Some m) ≡ m.body ∷ []
    fresh_told kept last m e out =
        let f : IsFresh d.halves.out.holding last kept = out in
        let same : f.mail ≡ m = (let both : Some f.mail ≡ Some m = sym f.holds ∙ e in cc) in
        news_next kept m (ap (λ (z : LinkMail M). z.counter) (sym same) ∙ f.next)

    told_stage : (kept behind : ℕ) (w : Bool) (ts : List M) → Tells kept d.halves.out.holding w ts behind → KeptOut d.fresh d.halves.out.holding d.halves.out.last kept → k.fresh ≡ (d.fresh && not w) → StageBy (Some Passing.Waiting) d →
        StageBy (by (Some Passing.Waiting) (map (λ m. News.Told m) ts ++ ns)) k
    told_stage kept behind w ts (Tells.told m e) out fresh s =
        told_first (λ none. (let bad : None ≡ Some m = sym none ∙ e in cc)) (news kept (Some m)) (λ empty. by_stage empty s)
      where
        by_stage : news kept (Some m) ≡ [] → StageBy (Some Passing.Waiting) d → StageBy (Some Passing.Waiting) k
        by_stage empty (inl u) = inl (untold u)
        by_stage empty (inr f) = absurd (
            let one = fresh_told kept d.halves.out.last m e (subst (λ b. KeptOut b d.halves.out.holding d.halves.out.last kept) f out) in
            let bad : m.body ∷ [] ≡ [] = sym one ∙ empty in cc)
    told_stage kept behind w ts Tells.quiet out fresh s = waits (by_stage s)
      where
        by_stage : StageBy (Some Passing.Waiting) d → StageBy (Some Passing.Waiting) k
        by_stage (inl u) = inl (untold u)
        by_stage (inr f) = inr (fresh ∙ ap (λ b. b && true) f)

    pub stage_on : (o : Option Passing) (kept behind : ℕ) (w : Bool) (ts : List M) → Tells kept d.halves.out.holding w ts behind → KeptOut d.fresh d.halves.out.holding d.halves.out.last kept → k.fresh ≡ (d.fresh && not w) → StageBy o d →
        StageBy (by o (map (λ m. News.Told m) ts ++ ns)) k
    stage_on None kept behind w ts t out fresh s = tt
    stage_on (Some Passing.Waiting) kept behind w ts t out fresh s = told_stage kept behind w ts t out fresh s
    stage_on (Some Passing.Sent) kept behind w ts t out fresh s = subst (λ o. StageBy o k) (sym (skips x acknowledged more passed Passing.Sent (λ m. refl) ts ns)) (goes s)
    stage_on (Some Passing.Boxed) kept behind w ts t out fresh s = of_late (by (Some Passing.Boxed) (map (λ m. News.Told m) ts ++ ns)) (late (Some Passing.Boxed) (map (λ m. News.Told m) ts ++ ns) tt)
    stage_on (Some Passing.Served) kept behind w ts t out fresh s = of_late (by (Some Passing.Served) (map (λ m. News.Told m) ts ++ ns)) (late (Some Passing.Served) (map (λ m. News.Told m) ts ++ ns) tt)
    stage_on (Some Passing.Answered) kept behind w ts t out fresh s = of_late (by (Some Passing.Answered) (map (λ m. News.Told m) ts ++ ns)) (late (Some Passing.Answered) (map (λ m. News.Told m) ts ++ ns) tt)
