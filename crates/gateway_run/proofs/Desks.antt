-- What keeps a desk sound.
use Rattle.std.proofs.Common.{◌≡◌, ℕ, zero, suc, List, [], ◌∷◌, ◌++◌, length, length-append, Bool, true, refl, sym, ap, ◌∙◌, subst, eq-eqb, arith}
use Rattle.std.specs.Prelude.{◌≢◌, ◌==◌, not, filter, slice_get, Option, Some, None, All, IfSome}
use Rattle.std.proofs.lemmas.List.Elements.{All-weaker, All-push, All-filter, filter_passes}
use Rattle.slab.specs.Slab.{Slab, Updates, get, slab_len}
use Rattle.gateway_core.specs.of_ec_outside.Port.{HeardGram}
use Rattle.gateway_core.specs.of_ec_outside.declared.port.Peer.{Peer}
use Rattle.gateway_core.specs.of_mailbox_mail.declared.mail.Mail.{Mail}
use Rattle.gateway_core.specs.Framing.{gram_text}
use Rattle.gateway_core.specs.Gateway.{RepliesTo}
use Rattle.gateway_core.specs.declared.asker.Asker.{Asker}
use Rattle.run_record.specs.of_run_book.declared.book.GramOut.{GramOut}
use Rattle.gateway_run.specs.Account.{is_other, owing, IsFree, Spells}
use Rattle.gateway_run.specs.Heard.{IsOwed}
use Rattle.gateway_run.specs.Desk.{AreApart, IsOpen, IsSoundBut, IsSound}
use Rattle.gateway_run.specs.declared.desk.Request.{Request}
use Rattle.gateway_run.specs.declared.desk.Desk.{Desk}
use Rattle.gateway_run.proofs.Accounts.{apart_push}

pub get_more : {X : Type 0} (xs ys : List X) (k : ℕ) (x : X) → slice_get xs k ≡ Some x → slice_get (xs ++ ys) k ≡ Some x
get_more [] ys k x is = absurd (cc)
get_more (a ∷ xs) ys zero x is = is
get_more (a ∷ xs) ys (suc k) x is = get_more xs ys k x is

pub get_last : {X : Type 0} (xs : List X) (x : X) → slice_get (xs ++ x ∷ []) (length xs) ≡ Some x
get_last [] x = refl
get_last (a ∷ xs) x = get_last xs x

pub owed_more : (heard more : List HeardGram) (r : GramOut) → IsOwed heard r → IsOwed (heard ++ more) r
owed_more heard more r o = record {
  gram = o.gram;
  asked = o.asked;
  mail = o.mail;
  answers = get_more heard more r.gram o.gram o.answers;
  request = o.request;
  peer = o.peer;
  text = o.text;
}

pub all_owed_more : (heard more : List HeardGram) (rs : List GramOut) → All (IsOwed heard) rs → All (IsOwed (heard ++ more)) rs
all_owed_more heard more rs all = All-weaker (IsOwed heard) (IsOwed (heard ++ more)) (owed_more heard more) rs all

open_more : (requests : Slab Asker) (heard more : List HeardGram) (r : Request) → IsOpen requests heard r → IsOpen requests (heard ++ more) r
open_more requests heard more r o = record {
  asker = o.asker;
  gram = o.gram;
  mail = o.mail;
  stands = o.stands;
  answers = get_more heard more r.gram o.gram o.answers;
  request = o.request;
  peer = o.peer;
  station = o.station;
  counter = o.counter;
}

-- one more datagram was heard
pub sound_more : (heard more : List HeardGram) (d : Desk) → IsSound heard d → IsSound (heard ++ more) d
sound_more heard more d s = record {
  requests = All-weaker (IsOpen d.gateway heard) (IsOpen d.gateway (heard ++ more)) (open_more d.gateway heard more) d.requests.items s.requests;
  apart = s.apart;
  few = s.few;
  owed = all_owed_more heard more d.outbox.items s.owed;
}

-- a desk of the same requests
pub sound_same : (heard : List HeardGram) (d d' : Desk) → d'.gateway ≡ d.gateway → d'.requests.items ≡ d.requests.items → All (IsOwed heard) d'.outbox.items → IsSound heard d → IsSound heard d'
sound_same heard d d' gateway requests owed s = record {
  requests = subst (λ (g : Slab Asker). All (IsOpen g heard) d'.requests.items) (sym gateway) (subst (All (IsOpen d.gateway heard)) (sym requests) s.requests);
  apart = subst AreApart (sym requests) s.apart;
  few = let g = ap (λ (k : Slab Asker). slab_len k) gateway in let n = ap length requests in let few = s.few in omega (arith, g, n, few);
  owed = owed;
}

-- a request that the gateway has is put behind the others
pub put_sound : (heard : List HeardGram) (d d' : Desk) (r : Request) → d'.gateway ≡ d.gateway → d'.requests.items ≡ d.requests.items ++ r ∷ [] → All (IsOwed heard) d'.outbox.items → IsOpen d.gateway heard r → IsFree r.key d.requests.items →
    IsSoundBut 1 heard d → IsSound heard d'
put_sound heard d d' r gateway requests owed stands free s = record {
  requests = subst (λ (g : Slab Asker). All (IsOpen g heard) d'.requests.items) (sym gateway)
      (subst (All (IsOpen d.gateway heard)) (sym requests) (All-push (IsOpen d.gateway heard) d.requests.items r s.requests stands));
  apart = subst AreApart (sym requests) (apart_push d.requests.items r s.apart free);
  few =
      let g = ap (λ (k : Slab Asker). slab_len k) gateway in
      let n = ap length requests ∙ length-append d.requests.items (r ∷ []) in
      let few = s.few in
      omega (arith, g, n, few);
  owed = owed;
}

-- a request stands whatever becomes of another key
open_kept : (old new : Slab Asker) (key : ℕ) (slot : Option Asker) (heard : List HeardGram) (r : Request) → Updates old new key slot → r.key ≢ key → IsOpen old heard r → IsOpen new heard r
open_kept old new key slot heard r update apart o = record {
  asker = o.asker;
  gram = o.gram;
  mail = o.mail;
  stands = update.others r.key apart ∙ o.stands;
  answers = o.answers;
  request = o.request;
  peer = o.peer;
  station = o.station;
  counter = o.counter;
}

apart_from : (n key : ℕ) → not (n == key) ≡ true → n ≢ key
apart_from n key other same = let e = eq-eqb n key same in absurd (cc)

-- the request of a key is finished
pub finished : (old new : Slab Asker) (key : ℕ) (heard : List HeardGram) (rs rs' : List Request) → rs' ≡ filter (is_other key) rs → Updates old new key None → All (IsOpen old heard) rs → All (IsOpen new heard) rs'
finished old new key heard rs rs' is update all =
    let kept = All-filter (is_other key) (IsOpen old heard) rs all in
    let apart = filter_passes (is_other key) rs in
    subst (All (IsOpen new heard)) (sym is)
    (λ k d inside. open_kept old new key None heard _ update (apart_from _ key (apart k d inside)) (kept k d inside))

-- a request is put under a key that had none
pub queued : (old new : Slab Asker) (key : ℕ) (asker : Asker) (heard : List HeardGram) (rs : List Request) → get old key ≡ None → Updates old new key (Some asker) → All (IsOpen old heard) rs → All (IsOpen new heard) rs
queued old new key asker heard rs vacant update all =
    All-weaker (IsOpen old heard) (IsOpen new heard)
    (λ r o. open_kept old new key (Some asker) heard r update (λ same. let stands = o.stands in let e = ap (get old) same in absurd (cc)) o) rs all

-- a mail goes to who asked by a request, as it is sent
pub spelled_to : (heard : List HeardGram) (g : Slab Asker) (request : Request) (mail : Mail) (peer : Peer) (octets bytes : List ℕ) → IsOpen g heard request →
    IfSome (get g request.key) (λ asker. RepliesTo asker mail peer octets) → bytes ≡ octets → Spells heard (owing mail request) (record { peer = peer; bytes = bytes; gram = request.gram })
spelled_to heard g request mail peer octets bytes o replies same =
    let r : RepliesTo o.asker mail peer octets = subst (λ (a : Option Asker). IfSome a (λ asker. RepliesTo asker mail peer octets)) o.stands replies in
    record {
      gram = o.gram;
      asked = o.mail;
      number = refl;
      answers = o.answers;
      request = o.request;
      peer = r.0 ∙ o.peer;
      text =
          same ∙ r.1 ∙ ap (λ (a : ℕ). gram_text (record mail { address = a; counter = o.asker.counter })) o.station
          ∙ ap (λ (n : ℕ). gram_text (record mail { address = o.mail.address; counter = n })) o.counter;
    }

-- so it is a reply to its own asker
pub answered : (heard : List HeardGram) (g : Slab Asker) (request : Request) (mail : Mail) (peer : Peer) (octets bytes : List ℕ) → IsOpen g heard request →
    IfSome (get g request.key) (λ asker. RepliesTo asker mail peer octets) → bytes ≡ octets → IsOwed heard (record { peer = peer; bytes = bytes; gram = request.gram })
answered heard g request mail peer octets bytes o replies same =
    let s = spelled_to heard g request mail peer octets bytes o replies same in
    record { gram = s.gram; asked = s.asked; mail = mail; answers = s.answers; request = s.request; peer = s.peer; text = s.text }

-- a mail that came into hand
pub begun_open : (g : Slab Asker) (heard : List HeardGram) (r : Request) (begun : Bool) → IsOpen g heard r → IsOpen g heard (record { key = r.key; slave = r.slave; gram = r.gram; begun = begun })
begun_open g heard r begun o = record {
  asker = o.asker;
  gram = o.gram;
  mail = o.mail;
  stands = o.stands;
  answers = o.answers;
  request = o.request;
  peer = o.peer;
  station = o.station;
  counter = o.counter;
}
