-- A reply that comes next at a moment of rows is that of the newest, which has nothing left to tell and no answer yet.
use Rattle.std.proofs.Common.{◌≡◌, inl, inr, ℕ, Bool, true, false, not, cond, Option, None, Some, List, [], ◌∷◌, ◌++◌, refl, sym, ap, ◌∙◌, append_assoc}
use Rattle.std.specs.Prelude.{drop, length}
use Rattle.slave_server.specs.of_exchange_model.Exchange.{Exchange, IsLawful, after, given, plain}
use Rattle.slave_server.specs.of_exchange_model.Prefix.{IsPrefixOf}
use Rattle.slave_server.specs.of_exchange_model.Rows.{Row, left, told_all, heard_all}
use Rattle.slave_server.specs.of_exchange_model.Laws.{Moment}
use Rattle.slave_server.proofs.of_exchange_model.Nows.{Reached, reached_or_waits}
use Rattle.slave_server.proofs.of_exchange_model.Settles.{settled_ready}
use Rattle.slave_server.proofs.of_exchange_model.Words.{plain-append, plain_given-append}
use Rattle.slave_server.specs.of_slave_model.Hears.{HearsFirst}
use Rattle.slave_server.proofs.of_slave_model.HearsDialogues.{drop_none, not_none}
use Rattle.run_frames.specs.of_master_side.Due.{IsReply}

-- nothing is left further on either
drop_further : {X : Type 0} (xs ys l : List X) → drop (length xs) l ≡ [] → drop (length (xs ++ ys)) l ≡ []
drop_further [] ys l e = ap (drop (length ys)) e ∙ drop_none (length ys)
drop_further (x ∷ xs) ys [] e = refl
drop_further (x ∷ xs) ys (k ∷ l) e = drop_further xs ys l e

module _ {V A M Q R : Type 0} (x : Exchange V A M Q R) (law : IsLawful x) (hears : HearsFirst x) (v : V) (ready : x.ready v ≡ true) (front last : List (Row M Q R)) (now : Row M Q R) (held taken accepted : List M)
    (at : Moment x v front last now held taken accepted) (b : M) (replies : x.speech.emission b ≡ false) (comes : IsPrefixOf (accepted ++ b ∷ []) (given x.serve v taken)) where
  abbrev past : List (Row M Q R)
  past = front ++ last

  abbrev before : V
  before = after x.serve v (told_all past)

  abbrev all : List M
  all = x.full before now.service

  abbrev plainly : List M → List M
  plainly = plain x.speech.emission

  abbrev hs : List M
  hs = plainly now.heard

  abbrev behind : Row M Q R
  behind = record now { heard = now.heard ++ b ∷ [] }

  heard_is : plainly (now.heard ++ b ∷ []) ≡ hs ++ b ∷ []
  heard_is = plain-append x.speech.emission now.heard (b ∷ []) ∙ ap (λ (k : Bool). hs ++ cond (not k) (b ∷ []) []) replies

  on : x.ready before ≡ true
  on = settled_ready x law v past ready at.fits.settled

  -- the server has come to the newest row
  module _ (here : Reached x v past behind taken at.order.0) where
    abbrev rest : List M
    rest = at.order.0 ++ at.fits.mine.0

    brings : plainly (given x.serve before here.own) ≡ hs ++ b ∷ here.hears.0
    brings = sym here.hears.1 ∙ ap (λ l. l ++ here.hears.0) heard_is ∙ append_assoc hs (b ∷ []) here.hears.0

    whole : all ≡ here.own ++ rest
    whole = sym at.fits.mine.1 ∙ ap (λ l. l ++ at.fits.mine.0) here.told_is ∙ append_assoc here.own at.order.0 at.fits.mine.0

    abbrev later : List M
    later = here.hears.0 ++ plainly (given x.serve (after x.serve before here.own) rest)

    brings_all : plainly (given x.serve before all) ≡ hs ++ b ∷ later
    brings_all =
        ap (λ l. plainly (given x.serve before l)) whole ∙ plain_given-append x.serve x.speech.emission before here.own rest
        ∙ ap (λ l. l ++ plainly (given x.serve (after x.serve before here.own) rest)) brings ∙ append_assoc hs (b ∷ here.hears.0) (plainly (given x.serve (after x.serve before here.own) rest))

    told : left x.speech now ≡ []
    told =
        let planned = x.speech.planned now.service hs in
        ap (λ l. drop (length l) planned) here.told_is
        ∙ drop_further here.own at.order.0 planned (hears before now.service on at.fits.valid here.own rest whole hs b here.hears.0 brings)

    posts : (handed : Bool) → x.speech.handed now.service ≡ handed → handed ≡ false
    posts false e = refl
    posts true e = not_none hs b later (sym (law.silent before now.service on at.fits.valid e) ∙ brings_all)

    ends : x.speech.ends now.service (hs ++ b ∷ later) ≡ Some (x.reply (x.app before) now.service)
    ends = ap (x.speech.ends now.service) (sym brings_all) ∙ law.replied before now.service on at.fits.valid (posts (x.speech.handed now.service) refl)

    none_yet : (answer : Option (R × ℕ)) → now.answer ≡ answer → answer ≡ None
    none_yet None e = refl
    none_yet (Some answer) e =
        let over = law.ended now.service hs b later answer.0 (at.fits.answered answer e).1 in
        absurd (let no : None ≡ Some (x.reply (x.app before) now.service) = sym over ∙ ends in cc)

    is_due : IsReply x.speech now b
    is_due = record { told = told; unanswered = none_yet now.answer refl; rest = later; reply = x.reply (x.app before) now.service; ends = ends }

  pub next_due : IsReply x.speech now b
  next_due = elim (reached_or_waits x law v past behind held taken (accepted ++ b ∷ []) at.fits.settled at.fits.all_held (ap (λ l. l ++ b ∷ []) at.fits.all_accepted ∙ append_assoc (heard_all past) now.heard (b ∷ [])) at.order comes) [
    | inl here ↦ is_due here
    | inr wait ↦ not_none hs b [] (sym wait.quiet ∙ heard_is)
  ]
