-- How far a mail that is passed on comes by news, and what was heard for it.
use Rattle.std.proofs.Common.{◌≡◌, ◌≢◌, Bool, true, false, Option, Some, None, List, [], ◌∷◌, ◌++◌, refl, sym, ap, ◌∙◌, subst, append-nil, append_assoc, if◌then◌else◌, inl, inr}
use Rattle.std.specs.Prelude.{⊤, not}
use Rattle.slave_parts.specs.of_exchange_model.Exchange.{Exchange, Speech, given, plain}
use Rattle.slave_parts.proofs.of_exchange_model.Words.{plain-append}
use Rattle.slave_parts.specs.of_life_model.Lives.{passes}
use Rattle.slave_parts.specs.of_segment_model.Ends.{Passing, passing_after}
use Rattle.slave_parts.specs.of_segment_model.Record.{News, mails_heard}
use Rattle.slave_parts.specs.of_serving_model.Passing.{ends_told}
use Rattle.few_replies.specs.Heard.{HeardBy, LastTold}

-- what was heard behind it, where it isn't over
abbrev pub After : {M : Type 0} → (M → Bool) → (M → Bool) → Option Passing → List M → Type 0
After emission more None hs = ⊤
After emission more (Some p) hs = HeardBy emission more p hs

-- a reply that others follow is no last one
both_false : (b c : Bool) → c ≡ false → (if b then c else false) ≡ false
both_false true c e = e
both_false false c e = refl

not_last : {M : Type 0} (more : M → Bool) (ms : List M) (m : M) → more m ≡ true → ends_told more (ms ++ m ∷ []) ≡ false
not_last more [] m e = ap not e
not_last more (a ∷ []) m e = both_false (more a) (ends_told more (m ∷ [])) (ap not e)
not_last more (a ∷ (b ∷ ms)) m e = both_false (more a) (ends_told more (b ∷ (ms ++ m ∷ []))) (not_last more (b ∷ ms) m e)

some_last : {M : Type 0} (ms : List M) (m : M) → (ms ++ m ∷ []) ≢ []
some_last [] m e = absurd (let no : m ∷ [] ≡ [] = e in cc)
some_last (a ∷ ms) m e = absurd (let no : a ∷ (ms ++ m ∷ []) ≡ [] = e in cc)

module _ {M : Type 0} (emission more : M → Bool) where
  -- the same replies
  same_heard : (p : Passing) (hs ks : List M) → plain emission ks ≡ plain emission hs → HeardBy emission more p hs → HeardBy emission more p ks
  same_heard Passing.Waiting hs ks e h = e ∙ h
  same_heard Passing.Sent hs ks e h = e ∙ h
  same_heard Passing.Boxed hs ks e h = e ∙ h
  same_heard Passing.Served hs ks e h = e ∙ h
  same_heard Passing.Answered hs ks e h = ((λ none. h.0 (sym e ∙ none)), ap (ends_told more) e ∙ h.1)

  one_emission : (m : M) → emission m ≡ true → plain emission (m ∷ []) ≡ []
  one_emission m e = ap (λ (b : Bool). if not b then m ∷ [] else []) e

  one_reply : (m : M) → emission m ≡ false → plain emission (m ∷ []) ≡ m ∷ []
  one_reply m e = ap (λ (b : Bool). if not b then m ∷ [] else []) e

  emitted : (p : Passing) (hs : List M) (m : M) → emission m ≡ true → HeardBy emission more p hs → HeardBy emission more p (hs ++ m ∷ [])
  emitted p hs m e h = same_heard p hs (hs ++ m ∷ []) (plain-append emission hs (m ∷ []) ∙ ap (λ l. plain emission hs ++ l) (one_emission m e) ∙ append-nil (plain emission hs)) h

  replied : (hs : List M) (m : M) → emission m ≡ false → more m ≡ true → HeardBy emission more Passing.Answered (hs ++ m ∷ [])
  replied hs m e f =
      let all : plain emission (hs ++ m ∷ []) ≡ plain emission hs ++ m ∷ [] = plain-append emission hs (m ∷ []) ∙ ap (λ l. plain emission hs ++ l) (one_reply m e) in
      ((λ none. some_last (plain emission hs) m (sym all ∙ none)), ap (ends_told more) all ∙ not_last more (plain emission hs) m f)

  -- a mail that was heard
  by_mail : (p : Passing) (hs : List M) (m : M) → HeardBy emission more p hs → After emission more (if emission m then Some p else if more m then Some Passing.Answered else None) (hs ++ m ∷ [])
  by_mail p hs m h = go (emission m) (more m) refl refl
    where
      go : (b c : Bool) → emission m ≡ b → more m ≡ c → After emission more (if b then Some p else if c then Some Passing.Answered else None) (hs ++ m ∷ [])
      go true c e f = emitted p hs m e h
      go false true e f = replied hs m e f
      go false false e f = tt

  by_served : (hs : List M) (m : M) → After emission more (if emission m then None else if more m then Some Passing.Answered else None) (hs ++ m ∷ [])
  by_served hs m = go (emission m) (more m) refl refl
    where
      go : (b c : Bool) → emission m ≡ b → more m ≡ c → After emission more (if b then None else if c then Some Passing.Answered else None) (hs ++ m ∷ [])
      go true c e f = tt
      go false true e f = replied hs m e f
      go false false e f = tt

  heard : (p : Passing) (hs : List M) (m : M) → HeardBy emission more p hs → After emission more (passing_after emission more p (News.Heard m)) (hs ++ m ∷ [])
  heard Passing.Waiting hs m h = by_mail Passing.Waiting hs m h
  heard Passing.Sent hs m h = by_mail Passing.Sent hs m h
  heard Passing.Boxed hs m h = by_mail Passing.Boxed hs m h
  heard Passing.Served hs m h = by_served hs m
  heard Passing.Answered hs m h = by_mail Passing.Answered hs m h

  -- any other news
  told : (p : Passing) (hs : List M) (m : M) → HeardBy emission more p hs → After emission more (passing_after emission more p (News.Told m)) hs
  told Passing.Waiting hs m h = h
  told Passing.Sent hs m h = h
  told Passing.Boxed hs m h = h
  told Passing.Served hs m h = h
  told Passing.Answered hs m h = h

  written : (p : Passing) (hs : List M) → HeardBy emission more p hs → After emission more (passing_after emission more p News.Written) hs
  written Passing.Waiting hs h = h
  written Passing.Sent hs h = h
  written Passing.Boxed hs h = h
  written Passing.Served hs h = h
  written Passing.Answered hs h = h

  empty : (p : Passing) (hs : List M) → HeardBy emission more p hs → After emission more (passing_after emission more p News.NothingRead) hs
  empty Passing.Waiting hs h = h
  empty Passing.Sent hs h = h
  empty Passing.Boxed hs h = h
  empty Passing.Served hs h = tt
  empty Passing.Answered hs h = h

  seen : (p : Passing) (hs : List M) (full : Bool) → HeardBy emission more p hs → After emission more (passing_after emission more p (News.BoxFull full)) hs
  seen Passing.Waiting hs full h = h
  seen Passing.Sent hs full h = h
  seen Passing.Boxed hs true h = h
  seen Passing.Boxed hs false h = h
  seen Passing.Served hs full h = h
  seen Passing.Answered hs full h = h

  status : (p : Passing) (hs : List M) (state : _) (refused : _) → HeardBy emission more p hs → After emission more (passing_after emission more p (News.Status state refused)) hs
  status Passing.Waiting hs state refused h = h
  status Passing.Sent hs state refused h = h
  status Passing.Boxed hs state refused h = h
  status Passing.Served hs state refused h = h
  status Passing.Answered hs state refused h = h

module _ {M Q R : Type 0} (x : Speech M Q R) (acknowledged : Q → Bool) (more : M → Bool) (passed : Q → Bool) where
  abbrev by : Option Passing → List (News M) → Option Passing
  by o ns = passes x acknowledged more passed o ns

  -- ALL NEWS OF A FRAME
  pub after : (o : Option Passing) (ns : List (News M)) (hs : List M) → After x.emission more o hs → After x.emission more (by o ns) (hs ++ mails_heard ns)
  after None ns hs h = tt
  after (Some p) [] hs h = subst (λ l. HeardBy x.emission more p l) (sym (append-nil hs)) h
  after (Some p) (News.Told m ∷ ns) hs h = after (passing_after x.emission more p (News.Told m)) ns hs (told x.emission more p hs m h)
  after (Some p) (News.Written ∷ ns) hs h = after (passing_after x.emission more p News.Written) ns hs (written x.emission more p hs h)
  after (Some p) (News.NothingRead ∷ ns) hs h = after (passing_after x.emission more p News.NothingRead) ns hs (empty x.emission more p hs h)
  after (Some p) (News.BoxFull full ∷ ns) hs h = after (passing_after x.emission more p (News.BoxFull full)) ns hs (seen x.emission more p hs full h)
  after (Some p) (News.Status state refused ∷ ns) hs h = after (passing_after x.emission more p (News.Status state refused)) ns hs (status x.emission more p hs state refused h)
  after (Some p) (News.Heard m ∷ ns) hs h =
      let o = passing_after x.emission more p (News.Heard m) in
      subst (λ l. After x.emission more (by o ns) l) (append_assoc hs (m ∷ []) (mails_heard ns)) (after o ns (hs ++ m ∷ []) (heard x.emission more p hs m h))

  -- so a mail that isn't over behind them wasn't before
  pub goes_on : (o : Option Passing) (ns : List (News M)) (q : Passing) → by o ns ≡ Some q → (p : Passing) × (o ≡ Some p)
  goes_on None ns q e = absurd (let no : None ≡ Some q = e in cc)
  goes_on (Some p) ns q e = (p, refl)

-- ALL REPLIES WERE HEARD
pub ends : {V A M Q R : Type 0} (x : Exchange V A M Q R) (more : M → Bool) (q : Q) → LastTold x more q → (v : V) → x.ready v ≡ true → (hs : List M) → plain x.speech.emission hs ≡ plain x.speech.emission (given x.serve v (x.full v q)) →
    HeardBy x.speech.emission more Passing.Answered hs → ⊥
ends x more q last v ready hs all h = elim (last v ready) [
  | inl none ↦ h.0 (all ∙ none)
  | inr tells ↦ (let no : false ≡ true = sym h.1 ∙ ap (ends_told more) all ∙ tells in cc)
]
