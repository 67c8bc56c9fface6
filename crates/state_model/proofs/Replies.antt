-- The outcomes of a slave's services against its ghost rows: each reply is its application's, in the AL state that stood.
use Rattle.std.proofs.Common.{◌≡◌, ℕ, suc, Bool, true, false, Option, Some, None, List, [], ◌∷◌, ◌++◌, length, refl, ap, sym, ◌∙◌, subst, if◌then◌else◌}
use Rattle.std.specs.Prelude.{⊤}
use Rattle.segment_model.specs.of_exchange_model.Exchange.{Exchange}
use Rattle.segment_model.specs.of_exchange_model.Rows.{Row, Replied}
use Rattle.segment_model.specs.Record.{Frame, News, first_end, or_later, news_from}
use Rattle.segment_model.specs.Ends.{Task, Outcome, ends, mails_end, all_written}
use Rattle.segment_model.specs.Laws.{AllAnswered}
use Rattle.state_model.specs.States.{Table}
use Rattle.state_model.specs.Promises.{state_behind}
use Rattle.state_model.specs.Stated.{Stated, IsStated, Act, Service, Counting, with_states}
use Rattle.state_model.specs.Promise.{outcome_of, IsReply, AllReplied}
use Rattle.state_model.proofs.Ghosts.{GhostRow, starts_of, Label, labels_of, label_by, mail_labels}
use Rattle.state_model.proofs.TaskOrders.{state_on, StateReplied, StatesReplied}

module _ {V A M Q R : Type 0} (x : Exchange V A M Q R) (more : M → Bool) (station : ℕ) (fs : List (Frame M)) where
  -- what the record gives for a service by mails
  abbrev pub mails_outcome : Q → ℕ → Option (Outcome R × ℕ)
  mails_outcome q frame = first_end (ends x.speech more (Task.Mails q)) frame [] (news_from station frame fs)

  -- a row by mails has the answer that the record gives
  abbrev pub IsLabelled : Label Q R → Type 0
  IsLabelled l = x.speech.handed l.service ≡ false → l.answer ≡ mails_outcome l.service l.frame

  abbrev pub AllLabelled : List (Label Q R) → Type 0
  AllLabelled [] = ⊤
  AllLabelled (l ∷ ls) = IsLabelled l × AllLabelled ls

  pub rows_labelled : (rs : List (Row M Q R)) → AllAnswered x.speech more station fs rs → AllLabelled (labels_of rs)
  rows_labelled [] a = tt
  rows_labelled (r ∷ rs) a = (a.0.replied, rows_labelled rs a.1)

  pub labelled_split : (ls ks : List (Label Q R)) → AllLabelled (ls ++ ks) → AllLabelled ls × AllLabelled ks
  labelled_split [] ks a = (tt, a)
  labelled_split (l ∷ ls) ks a = let later = labelled_split ls ks a.1 in ((a.0, later.0), later.1)

  -- a service that ends with its last write has no reply
  abbrev IsWritten : Option (Outcome R) → Type 0
  IsWritten found = (r : Outcome R) → found ≡ Some r → r ≡ Outcome.Handed

  end_written : (q : Q) (ns : List (News M)) → IsWritten (mails_end x.speech q true ns)
  end_written q ns = go (all_written (length (x.speech.planned q [])) ns)
    where
      go : (b : Bool) → IsWritten (if b then Some Outcome.Handed else None)
      go true r e = let same : Outcome.Handed ≡ r = cc in sym same
      go false r e = absurd (cc)

  writes_only : (q : Q) (frame : ℕ) (before : List (News M)) (nss : List (List (News M))) (o : Outcome R × ℕ) → first_end (mails_end x.speech q true) frame before nss ≡ Some o → o.0 ≡ Outcome.Handed
  writes_only q frame before [] o e = absurd (cc)
  writes_only q frame before (ns ∷ nss) o e = go (mails_end x.speech q true (before ++ ns)) (end_written q (before ++ ns)) (λ f. writes_only q (suc frame) (before ++ ns) nss o f) e
    where
      go : (found : Option (Outcome R)) → IsWritten found → (first_end (mails_end x.speech q true) (suc frame) (before ++ ns) nss ≡ Some o → o.0 ≡ Outcome.Handed) →
          or_later found frame (first_end (mails_end x.speech q true) (suc frame) (before ++ ns) nss) ≡ Some o → o.0 ≡ Outcome.Handed
      go None h later f = later f
      go (Some r) h later f = let pair : Outcome R × ℕ = (r, frame) in let same : pair ≡ o = cc in sym (ap (λ p. p.0) same) ∙ h r refl

  no_reply : (o : Outcome R) → o ≡ Outcome.Handed → IsReply o → ⊥
  no_reply o e is = subst IsReply e is

  -- so a reply to a service by mails is its row's answer
  pub reply_labelled : (l : Label Q R) → IsLabelled l → (o : Outcome R × ℕ) → mails_outcome l.service l.frame ≡ Some o → IsReply o.0 → l.answer ≡ Some o
  reply_labelled l is o e reply = go (x.speech.handed l.service) refl
    where
      go : (b : Bool) → x.speech.handed l.service ≡ b → l.answer ≡ Some o
      go false h = is h ∙ e
      go true h = absurd (no_reply o.0 (writes_only l.service l.frame [] (news_from station l.frame fs) o (ap (λ b. first_end (mails_end x.speech l.service b) l.frame [] (news_from station l.frame fs)) (sym h) ∙ e)) reply)

  module _ (s : Stated V A Q) (stated : IsStated x s) (table : Table) where
    abbrev both : Exchange (Counting V) (A × ℕ) (Act M) (Service Q) (Outcome R)
    both = with_states x s table

    -- what is to be shown of rows behind services that leave this application
    abbrev RepliedAll : List (GhostRow M Q R) → Type 0
    RepliedAll gs = (a : A × ℕ) → Replied both a gs → AllLabelled (mail_labels gs) → StatesReplied x more station fs table (s.state a.0) (starts_of gs) → AllReplied x s table more station fs a (starts_of gs)

    abbrev Reply : GhostRow M Q R → Service Q → A × ℕ → Type 0
    Reply g service a = (o : Outcome R × ℕ) → outcome_of x.speech more station fs (record { service = service; frame = g.frame }) ≡ Some o → IsReply o.0 → o.0 ≡ both.reply a service

    -- a row, by mails or of a state service
    replied_first : (g : GhostRow M Q R) (gs : List (GhostRow M Q R)) → RepliedAll gs → (service : Service Q) (a : A × ℕ) → ((answer : Outcome R × ℕ) → g.answer ≡ Some answer → answer.0 ≡ both.reply a service) → Replied both (both.exec a service) gs →
        AllLabelled (label_by g service ++ mail_labels gs) → StateReplied x more station fs table (s.state a.0) (record { service = service; frame = g.frame }) service → StatesReplied x more station fs table (state_on table (s.state a.0) service) (starts_of gs) →
        Reply g service a × AllReplied x s table more station fs (both.exec a service) (starts_of gs)
    replied_first g gs next (Service.Mails q) a reply replies labels state states = (
      (λ o e is. reply o (reply_labelled (record { service = q; frame = g.frame; answer = g.answer }) labels.0 o e is)),
      next (both.exec a (Service.Mails q)) replies labels.1 (subst (λ n. StatesReplied x more station fs table n (starts_of gs)) (sym (stated.keeps a.0 q)) states),
    )
    replied_first g gs next (Service.State target) a reply replies labels state states = (
      (λ o e is. state o e),
      next (both.exec a (Service.State target)) replies labels (subst (λ n. StatesReplied x more station fs table n (starts_of gs)) (sym (stated.is (state_behind table (s.state a.0) target) a.0)) states),
    )

    -- EACH REPLY is its application's, in the AL state that stood
    pub replied_all : (gs : List (GhostRow M Q R)) → RepliedAll gs
    replied_all [] a replies labels states = tt
    replied_all (g ∷ gs) a replies labels states = replied_first g gs (replied_all gs) g.service a replies.0 replies.1 labels states.0 states.1
