-- What is told to a desk.
use Rattle.std.proofs.Common.{◌≡◌, ℕ, List, [], ◌∷◌, ◌++◌, Bool, true, false, refl, sym, ap, ◌∙◌, subst, append_assoc, append-nil}
use Rattle.std.specs.Prelude.{cond, find, Option, Some, None}
use Rattle.gateway_core.specs.of_ec_outside.Port.{HeardGram}
use Rattle.gateway_core.specs.of_mailbox_mail.Mail.{error_of}
use Rattle.gateway_core.specs.of_mailbox_mail.declared.mail.Mail.{Mail}
use Rattle.run_record.specs.of_master_node.declared.event.Event.{Event}
use Rattle.run_record.specs.of_run_book.declared.book.GramOut.{GramOut}
use Rattle.gateway_run.specs.Account.{Owing, owing, has_key, is_of, others, elsewhere, cut_off, owed_to, replied, left_by, owed_by, left_by_all, owed_by_all}
use Rattle.gateway_run.specs.Desk.{IsSound, Owes, IsTold, Tells, cut_one}
use Rattle.gateway_run.specs.declared.desk.Desk.{Desk}
use Rattle.gateway_run.specs.declared.desk.Request.{Request}
use Rattle.gateway_run.proofs.Accounts.{owes_none, owes_both, dropped, none_left}

-- nothing is told
pub told_none : (heard : List HeardGram) (d d' : Desk) → IsSound heard d' → d'.requests.items ≡ d.requests.items → d'.outbox.items ≡ d.outbox.items → IsTold heard d.requests.items [] d d'
told_none heard d d' sound requests outbox = record { sound = sound; requests = requests; owes = owes_none heard d.outbox.items d'.outbox.items outbox }

-- a desk at which the requests of a slave are dropped one after the other
pub record IsGivingUp (heard : List HeardGram) (slave : ℕ) (d d' : Desk) : Type 0 where
  pub os : List Owing
  pub sound : IsSound heard d'
  pub left : elsewhere slave d'.requests.items ≡ elsewhere slave d.requests.items
  pub owes : Owes heard os d.outbox.items d'.outbox.items
  pub still : os ++ cut_off slave d'.requests.items ≡ cut_off slave d.requests.items

pub giving_up_first : (heard : List HeardGram) (slave : ℕ) (d : Desk) → IsSound heard d → IsGivingUp heard slave d d
giving_up_first heard slave d sound = record { os = []; sound = sound; left = refl; owes = owes_none heard d.outbox.items d.outbox.items refl; still = refl }

pub giving_up_on : (heard : List HeardGram) (slave : ℕ) (d d' d'' : Desk) (r : Request) → find (is_of slave) d'.requests.items ≡ Some r → IsGivingUp heard slave d d' → Tells (others r.key d'.requests.items) (cut_one r) d' d'' →
    IsGivingUp heard slave d d''
giving_up_on heard slave d d' d'' r found g tells =
    let told = tells heard g.sound in
    let drop = dropped slave d'.requests.items r found g.sound.apart in
    record {
      os = g.os ++ cut_one r;
      sound = told.sound;
      left = ap (elsewhere slave) told.requests ∙ drop.elsewhere_same ∙ g.left;
      owes = owes_both heard g.os (cut_one r) d.outbox.items d'.outbox.items d''.outbox.items g.owes told.owes;
      still = append_assoc g.os (cut_one r) (cut_off slave d''.requests.items)
          ∙ ap (λ (l : List Request). g.os ++ (cut_one r ++ cut_off slave l)) told.requests ∙ ap (λ (l : List Owing). g.os ++ l) (sym drop.owed_first) ∙ g.still;
    }

pub given_up_all : (heard : List HeardGram) (slave : ℕ) (d d' : Desk) → find (is_of slave) d'.requests.items ≡ None → IsGivingUp heard slave d d' → IsTold heard (elsewhere slave d.requests.items) (cut_off slave d.requests.items) d d'
given_up_all heard slave d d' none g =
    let left = none_left slave d'.requests.items none in
    record {
      sound = g.sound;
      requests = sym left.0 ∙ g.left;
      owes = subst (λ (l : List Owing). Owes heard l d.outbox.items d'.outbox.items) (sym (append-nil g.os) ∙ ap (λ (l : List Owing). g.os ++ l) (sym left.1) ∙ g.still) g.owes;
    }

-- one request is dropped
pub dropped_begun : (heard : List HeardGram) (d d' : Desk) (r : Request) (rs : List Request) → r.begun ≡ true → IsSound heard d' → d'.requests.items ≡ rs → d'.outbox.items ≡ d.outbox.items → IsTold heard rs (cut_one r) d d'
dropped_begun heard d d' r rs begun sound requests outbox = record {
  sound = sound;
  requests = requests;
  owes = subst (λ (l : List Owing). Owes heard l d.outbox.items d'.outbox.items) (sym (ap (λ (b : Bool). cond b [] (owing (error_of 5) r ∷ [])) begun)) (owes_none heard d.outbox.items d'.outbox.items outbox);
}

pub dropped_waiting : (heard : List HeardGram) (d d' : Desk) (r : Request) (rs : List Request) (out : List GramOut) → r.begun ≡ false → IsSound heard d' → d'.requests.items ≡ rs → d'.outbox.items ≡ out →
    Owes heard (owing (error_of 5) r ∷ []) d.outbox.items out → IsTold heard rs (cut_one r) d d'
dropped_waiting heard d d' r rs out begun sound requests outbox owes = record {
  sound = sound;
  requests = requests;
  owes = subst (λ (l : List Owing). Owes heard l d.outbox.items d'.outbox.items) (sym (ap (λ (b : Bool). cond b [] (owing (error_of 5) r ∷ [])) begun))
      (subst (λ (o : List GramOut). Owes heard (owing (error_of 5) r ∷ []) d.outbox.items o) (sym outbox) owes);
}

-- a reply
pub replied_some : (heard : List HeardGram) (mail : Mail) (key : ℕ) (d d' : Desk) (r : Request) → find (has_key key) d.requests.items ≡ Some r → IsSound heard d' → d'.requests.items ≡ d.requests.items →
    Owes heard (owing mail r ∷ []) d.outbox.items d'.outbox.items → IsTold heard d.requests.items (replied mail key d.requests.items) d d'
replied_some heard mail key d d' r found sound requests owes = record {
  sound = sound;
  requests = requests;
  owes = subst (λ (o : Option Request). Owes heard (owed_to mail o) d.outbox.items d'.outbox.items) (sym found) owes;
}

pub replied_none : (heard : List HeardGram) (mail : Mail) (key : ℕ) (d : Desk) → find (has_key key) d.requests.items ≡ None → IsSound heard d → IsTold heard d.requests.items (replied mail key d.requests.items) d d
replied_none heard mail key d none sound = record {
  sound = sound;
  requests = refl;
  owes = subst (λ (o : Option Request). Owes heard (owed_to mail o) d.outbox.items d.outbox.items) (sym none) (owes_none heard d.outbox.items d.outbox.items refl);
}

-- an event is told
abbrev pub Notes : Event → Desk → Desk → Type 0
Notes event d d' = Tells (left_by event d.requests.items) (owed_by event d.requests.items) d d'

-- the events of a step, of which these are left
pub record IsNoting (heard : List HeardGram) (all more : List Event) (d d' : Desk) : Type 0 where
  pub os : List Owing
  pub sound : IsSound heard d'
  pub left : left_by_all more d'.requests.items ≡ left_by_all all d.requests.items
  pub owes : Owes heard os d.outbox.items d'.outbox.items
  pub still : os ++ owed_by_all more d'.requests.items ≡ owed_by_all all d.requests.items

pub noting_first : (heard : List HeardGram) (all : List Event) (d : Desk) → IsSound heard d → IsNoting heard all all d d
noting_first heard all d sound = record { os = []; sound = sound; left = refl; owes = owes_none heard d.outbox.items d.outbox.items refl; still = refl }

pub noting_on : (heard : List HeardGram) (all more : List Event) (event : Event) (d d' d'' : Desk) → IsNoting heard all (event ∷ more) d d' → Notes event d' d'' → IsNoting heard all more d d''
noting_on heard all more event d d' d'' n notes =
    let told = notes heard n.sound in
    let now = owed_by event d'.requests.items in
    record {
      os = n.os ++ now;
      sound = told.sound;
      left = ap (left_by_all more) told.requests ∙ n.left;
      owes = owes_both heard n.os now d.outbox.items d'.outbox.items d''.outbox.items n.owes told.owes;
      still = append_assoc n.os now (owed_by_all more d''.requests.items) ∙ ap (λ (l : List Request). n.os ++ (now ++ owed_by_all more l)) told.requests ∙ n.still;
    }

pub noted_all : (heard : List HeardGram) (all : List Event) (d d' : Desk) → IsNoting heard all [] d d' → IsTold heard (left_by_all all d.requests.items) (owed_by_all all d.requests.items) d d'
noted_all heard all d d' n = record {
  sound = n.sound;
  requests = n.left;
  owes = subst (λ (l : List Owing). Owes heard l d.outbox.items d'.outbox.items) (sym (append-nil n.os) ∙ n.still) n.owes;
}
