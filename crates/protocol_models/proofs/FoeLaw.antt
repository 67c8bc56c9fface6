-- FoE owes the laws of an exchange and keeps them: for every service and size, through mailboxes of any lengths, and from a server with any
-- unfinished transfer.
use Rattle.std.proofs.Common.{◌≡◌, ◌⊎◌, inl, inr, ℕ, zero, suc, ◌+◌, ◌<◌, ◌≤◌, Bool, true, false, List, [], ◌∷◌, ◌++◌, length, if◌then◌else◌, Option, None, Some, refl, sym, ap, ◌∙◌, subst, arith, append-nil, length-append}
use Rattle.exchange_model.specs.Areas.{Areas, AreMailboxes}
use Rattle.exchange_model.specs.Prefix.{IsPrefixOf}
use Rattle.exchange_model.specs.Exchange.{IsLawful, Before, Behind, after, given, plain}
use Rattle.exchange_model.specs.Dialogue.{said}
use Rattle.exchange_model.proofs.Lists.{append_cancel, append_none}
use Rattle.exchange_model.proofs.Words.{plain_given-append, plain-append}
use Rattle.exchange_model.proofs.Turns.{follows, all_said, said_more, sent_each, each_append_right}
use Rattle.protocol_models.specs.FoeMails.{FoeMail, mail, Read, Ack, is_emission}
use Rattle.protocol_models.specs.Files.{Files, AreLawful}
use Rattle.mailbox_mail.specs.declared.outcome.ReplyKind.{ReplyKind}
use Rattle.protocol_models.specs.FoeServer.{Server, foe_outcome, opened, one_more}
use Rattle.protocol_models.specs.FoeMeaning.{Service, read, write, refused, read_means, write_means, meaning_of}
use Rattle.protocol_models.specs.FoeClient.{mails_of, acks, decide, ends}
use Rattle.protocol_models.specs.FoeModel.{read_length, turns, planned, full, foe_exchange}
use Rattle.protocol_models.proofs.FoeCarries.{step, Kept, kept_from_carried, all_plain, none_emitted}
use Rattle.protocol_models.proofs.WriteLaw.{write_carried}
use Rattle.protocol_models.proofs.ReadLaw.{read_kept}
use Rattle.protocol_models.proofs.FoeSpeaks.{AllAsked, is_asked, one_reply, decided, replies_few, packets_asked}
use Rattle.protocol_models.proofs.FoeClosing.{closed, ends_none}

-- more acknowledgements begin with fewer
acks_begin : (n m number : ℕ) → n ≤ m → IsPrefixOf (acks n number) (acks m number)
acks_begin zero m number less = (acks m number, refl)
acks_begin (suc n) zero number less = absurd (omega arith)
acks_begin (suc n) (suc m) number less = let rest = acks_begin n m (number + 1) (omega arith) in (rest.0, ap (λ l. mail (Ack number) ∷ l) rest.1)

acks_long : (n number : ℕ) → length (acks n number) ≡ n
acks_long zero number = refl
acks_long (suc n) number = ap suc (acks_long n (number + 1))

module _ {S : Type 0} (o : Files S) (law : AreLawful o) (areas : Areas) (sized : AreMailboxes areas) where
  -- at most so many mails
  abbrev pub bound : S → Service → ℕ
  bound app (read name pass) = suc (suc (read_length (o.allowed app name pass false) (o.get app name)))
  bound app (write name pass bytes) = suc (suc (length bytes + o.busy app name))

  fewer_than : (app : S) (q : Service) → bound app q < turns o app q
  fewer_than app (read name pass) = omega arith
  fewer_than app (write name pass bytes) = omega arith

  pub kept : (v : Server S) (q : Service) → o.valid v.app ≡ true → Kept o areas v q (bound v.app q) (full o areas v q)
  kept v (read name pass) sound = read_kept o areas law (turns o v.app (read name pass)) (suc (suc (read_length (o.allowed v.app name pass false) (o.get v.app name)))) (bound v.app (read name pass)) v name pass (o.allowed v.app name pass false) refl sound
      (let least = sized.back_least in omega arith) (omega arith) (omega arith) (omega arith)
  kept v (write name pass bytes) sound = kept_from_carried o areas v (write name pass bytes) (bound v.app (write name pass bytes)) _
      (write_carried o areas law (suc (suc (length bytes + o.busy v.app name))) v name pass bytes (bound v.app (write name pass bytes))
      (let least = sized.out_least in omega arith) (omega arith) (omega arith))

  replies : (v : Server S) (ms : List FoeMail) → plain is_emission (given (step o areas) v ms) ≡ given (step o areas) v ms
  replies v ms = all_plain (given (step o areas) v ms)

  -- a first part of a write's mails that has all replies has all mails
  write_all : (v : Server S) (name : List ℕ) (pass : ℕ) (bytes : List ℕ) → AllAsked (full o areas v (write name pass bytes))
  write_all v name pass bytes = sent_each (step o areas) is_emission (decide areas.out) (λ m. is_asked m ≡ true) (turns o v.app (write name pass bytes)) v
      (mails_of areas.out (write name pass bytes) (turns o v.app (write name pass bytes))) (refl, packets_asked (suc (length bytes)) areas.out 1 bytes)

  all_there : (v : Server S) (q : Service) → AllAsked (full o areas v q) → (p r : List FoeMail) → full o areas v q ≡ p ++ r →
      plain is_emission (given (step o areas) v p) ≡ plain is_emission (given (step o areas) v (full o areas v q)) → r ≡ []
  all_there v q all p [] e same = refl
  all_there v q all p (h ∷ r) e same =
      let w = after (step o areas) v p in
      let of = λ (ms : List FoeMail). plain is_emission (given (step o areas) v ms) in
      let cut : of p ++ [] ≡ of p ++ plain is_emission (given (step o areas) w (h ∷ r)) =
      append-nil (of p) ∙ same ∙ ap (λ ms. plain is_emission (given (step o areas) v ms)) e ∙ plain_given-append (step o areas) is_emission v p (h ∷ r) in
      let none = append_cancel (of p) [] (plain is_emission (given (step o areas) w (h ∷ r))) cut in
      let first = (append_none _ _ (sym (plain-append is_emission (step o areas w h).1 (given (step o areas) (step o areas w h).0 r)) ∙ sym none)).0 in
      let here : is_asked h ≡ true = (each_append_right (λ m. is_asked m ≡ true) p (h ∷ r) (subst AllAsked e all)).0 in
      absurd (let one = one_reply o areas w h here in let wrong : one.0 ∷ [] ≡ [] = sym one.1 ∙ first in cc)

  more_handled : (b : Bool) (n : ℕ) → n ≤ one_more b n
  more_handled true n = omega arith
  more_handled false n = omega arith

  all_handled : (v : Server S) (ms : List FoeMail) → v.handled ≤ (after (step o areas) v ms).handled
  all_handled v [] = omega arith
  all_handled v (m ∷ ms) = omega (arith, more_handled (foe_outcome o areas.out areas.back v.app v.transfer m).counts v.handled, all_handled (step o areas v m).0 ms)

  -- a request to read counts, whatever answers it
  opened_counts : (app : S) (bytes : List ℕ) (found : Option ℕ) → (opened areas.back app bytes found).counts ≡ true
  opened_counts app bytes None = refl
  opened_counts app bytes (Some code) = refl

  read_handled : (v : Server S) (name : List ℕ) (pass : ℕ) (p : List FoeMail) → suc v.handled ≤ (after (step o areas) v (mail (Read pass (record { items = name })) ∷ p)).handled
  read_handled v name pass p =
      let m = mail (Read pass (record { items = name })) in
      let one : (step o areas v m).0.handled ≡ suc v.handled = ap (λ b. one_more b v.handled) (opened_counts v.app (o.get v.app name) (o.allowed v.app name pass false)) in
      omega (arith, one, all_handled (step o areas v m).0 p)

  -- a read's reply isn't complete before its first packet
  read_counted : (v : Server S) (name : List ℕ) (pass : ℕ) → o.valid v.app ≡ true → (p r : List FoeMail) → full o areas v (read name pass) ≡ p ++ r →
      plain is_emission (given (step o areas) v p) ≡ plain is_emission (given (step o areas) v (full o areas v (read name pass))) →
      Before (foe_exchange o areas) v p ⊎ Behind (foe_exchange o areas) v (read name pass) p → Behind (foe_exchange o areas) v (read name pass) p
  read_counted v name pass sound p r e same (inr behind) = behind
  read_counted v name pass sound [] r e same (inl still) = absurd (let replied : ends areas (read name pass) [] ≡ Some (meaning_of o v.app (read name pass)).reply =
      ap (ends areas (read name pass)) (same ∙ replies v (full o areas v (read name pass))) ∙ (kept v (read name pass) sound).replied in cc)
  read_counted v name pass sound (k ∷ p) r e same (inl still) =
      let first : mail (Read pass (record { items = name })) ≡ k = cc in
      absurd (omega (arith, still.handled, subst (λ k. suc v.handled ≤ (after (step o areas) v (k ∷ p)).handled) first (read_handled v name pass p)))

  counted : (v : Server S) (q : Service) → o.valid v.app ≡ true → (p r : List FoeMail) → full o areas v q ≡ p ++ r →
      plain is_emission (given (step o areas) v p) ≡ plain is_emission (given (step o areas) v (full o areas v q)) → Behind (foe_exchange o areas) v q p
  counted v (read name pass) sound p r e same = read_counted v name pass sound p r e same ((kept v (read name pass) sound).part p r e)
  counted v (write name pass bytes) sound p r e same =
      subst (Behind (foe_exchange o areas) v (write name pass bytes))
      (e ∙ ap (λ l. p ++ l) (all_there v (write name pass bytes) (write_all v name pass bytes) p r e same) ∙ append-nil p) (kept v (write name pass bytes) sound).whole

  -- what a client has sent, on no more replies than it has turns: more turns and more acknowledgements don't matter
  planned_more : (q : Service) (n : ℕ) (hs : List FoeMail) → length hs < n → planned areas.out q hs ≡ said (decide areas.out) n (mails_of areas.out q n) hs
  planned_more (write name pass bytes) n hs few =
      said_more (decide areas.out) (λ m. refl) (suc (length hs)) n (mails_of areas.out (write name pass bytes) (length hs)) [] hs (omega arith) few (inr refl)
      ∙ ap (λ ms. said (decide areas.out) n ms hs) (append-nil (mails_of areas.out (write name pass bytes) (length hs)))
  planned_more (read name pass) n hs few =
      let begins = acks_begin (length hs) n 1 (omega arith) in
      said_more (decide areas.out) (λ m. refl) (suc (length hs)) n (mail (Read pass (record { items = name })) ∷ acks (length hs) 1) begins.0 hs (omega arith) few
      (inl (omega (arith, acks_long (length hs) 1))) ∙ ap (λ ms. said (decide areas.out) n (mail (Read pass (record { items = name })) ∷ ms) hs) begins.1

  few_replies : (v : Server S) (q : Service) → o.valid v.app ≡ true → (hs more : List FoeMail) → plain is_emission (given (step o areas) v (full o areas v q)) ≡ hs ++ more → length hs < turns o v.app q
  few_replies v q sound hs more e =
      omega (arith, replies_few o areas v (full o areas v q), ap length (replies v (full o areas v q)), ap length e, length-append hs more, (kept v q sound).few, fewer_than v.app q)

  client_follows : (v : Server S) (q : Service) → o.valid v.app ≡ true → (hs more : List FoeMail) → plain is_emission (given (step o areas) v (full o areas v q)) ≡ hs ++ more →
      IsPrefixOf (planned areas.out q hs) (full o areas v q)
  client_follows v q sound hs more e = subst (λ ms. IsPrefixOf ms (full o areas v q)) (sym (planned_more q (turns o v.app q) hs (few_replies v q sound hs more e)))
      (follows (step o areas) is_emission (decide areas.out) (turns o v.app q) v (mails_of areas.out q (turns o v.app q)) hs more (decided o areas (mails_of areas.out q (turns o v.app q))) e)

  client_plans : (v : Server S) (q : Service) → o.valid v.app ≡ true → planned areas.out q (plain is_emission (given (step o areas) v (full o areas v q))) ≡ full o areas v q
  client_plans v q sound =
      let all = plain is_emission (given (step o areas) v (full o areas v q)) in
      planned_more q (turns o v.app q) all (few_replies v q sound all [] (sym (append-nil all)))
      ∙ all_said (step o areas) is_emission (decide areas.out) (turns o v.app q) v (mails_of areas.out q (turns o v.app q)) (decided o areas (mails_of areas.out q (turns o v.app q)))

  -- a service leaves files of which the laws speak
  read_valid : (app : S) (name : List ℕ) (found : Option ℕ) → o.valid app ≡ true → o.valid (read_means o app name found).app ≡ true
  read_valid app name None sound = sound
  read_valid app name (Some code) sound = sound

  write_valid : (app : S) (name : List ℕ) (pass : ℕ) (bytes : List ℕ) (found : Option ℕ) → o.allowed app name pass true ≡ found → o.valid app ≡ true →
      o.valid (write_means o app name bytes found).app ≡ true
  write_valid app name pass bytes (Some code) is sound = sound
  write_valid app name pass bytes None is sound = by_room (o.has_room app (length bytes)) refl
    where
      by_room : (b : Bool) → o.has_room app (length bytes) ≡ b → o.valid (if b then record { app = o.put app name bytes; reply = (ReplyKind.Done, []) } else refused app 0x8003).app ≡ true
      by_room true fits = law.stays app name bytes pass sound is fits
      by_room false fits = sound

  pub means_valid : (app : S) (q : Service) → o.valid app ≡ true → o.valid (meaning_of o app q).app ≡ true
  means_valid app (read name pass) sound = read_valid app name (o.allowed app name pass false) sound
  means_valid app (write name pass bytes) sound = write_valid app name pass bytes (o.allowed app name pass true) refl sound

  -- THE EXCHANGE LAW OF FoE
  pub foe_law : IsLawful (foe_exchange o areas)
  foe_law = record {
    ready = λ v q ready valid. ap o.valid (kept v q ready).whole.app ∙ means_valid v.app q ready;
    whole = λ v q ready valid. (kept v q ready).whole;
    all_emitted = λ v q ready valid. none_emitted (given (step o areas) v (full o areas v q));
    replied = λ v q ready valid answers. ap (ends areas q) (replies v (full o areas v q)) ∙ (kept v q ready).replied;
    silent = λ v q ready valid posts. absurd (cc);
    part = λ v q ready valid p r e. (kept v q ready).part p r e;
    counted = λ v q ready valid answers p r e same. counted v q ready p r e same;
    none = λ q. ends_none areas q;
    ended = λ q hs h more r e. closed h more areas q hs r e;
    follows = λ v q ready valid hs more e. client_follows v q ready hs more e;
    all_planned = λ v q ready valid. client_plans v q ready;
    unanswered = λ q hs posts. absurd (cc);
    some = λ v q ready valid posts. absurd (cc);
    grows = λ v m. more_handled (foe_outcome o areas.out areas.back v.app v.transfer m).counts v.handled;
  }
