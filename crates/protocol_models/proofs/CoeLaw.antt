-- CoE owes the laws of an exchange and keeps them: for every service, value and size, through mailboxes of any lengths, and from a server
-- with any unfinished transfer.
use Rattle.std.proofs.Common.{None, Option, ◌≡◌, inl, inr, ℕ, zero, suc, ◌<◌, ◌≤◌, Bool, true, false, not, List, [], ◌∷◌, ◌++◌, length, Some, Result, Ok, Err, refl, sym, ap, ◌∙◌, subst, arith, append-nil, length-append}
use Rattle.exchange_model.specs.Areas.{Areas, AreMailboxes}
use Rattle.exchange_model.specs.Prefix.{IsPrefixOf}
use Rattle.exchange_model.specs.Exchange.{IsLawful, Behind, after, given, plain}
use Rattle.exchange_model.specs.Dialogue.{said, Decides}
use Rattle.exchange_model.proofs.Lists.{append_cancel, append_none, prefix_refl}
use Rattle.exchange_model.proofs.Words.{plain_given-append, plain-append}
use Rattle.exchange_model.proofs.Turns.{follows, all_said, said_more, said_last, sent_last, sent_few, sent_each, each_append_right}
use Rattle.protocol_models.specs.CoeMails.{CoeMail, mail, Upload, UploadSegment, is_emission}
use Rattle.protocol_models.specs.Tables.{Target, Ask, Tables, AreLawful}
use Rattle.protocol_models.specs.CoeServer.{Emission, emergency, packet, Server, emission_of, issued, serve, one_more, coe_outcome}
use Rattle.protocol_models.specs.CoeMeaning.{Service, download, upload, information, download_means, value_means, meaning_of}
use Rattle.protocol_models.specs.CoeClient.{mails_of, decide, ends, requests, download_mails, information_mail}
use Rattle.protocol_models.specs.CoeModel.{turns, planned, full, value_length, coe_exchange}
use Rattle.protocol_models.proofs.CoeCarries.{Kept, kept_from_carried}
use Rattle.protocol_models.proofs.DownloadLaw.{download_carried}
use Rattle.protocol_models.proofs.UploadLaw.{upload_by}
use Rattle.protocol_models.proofs.InformationLaw.{information_kept}
use Rattle.protocol_models.proofs.CoeSpeaks.{AllRequests, is_request, one_reply, decided, replies_counted, download_all, requests_all, download_few, never}
use Rattle.protocol_models.proofs.CoeClosing.{closed, ends_none}

-- more requests begin with fewer
requests_begin : (n m : ℕ) (toggle : Bool) → n ≤ m → IsPrefixOf (requests n toggle) (requests m toggle)
requests_begin zero m toggle less = (requests m toggle, refl)
requests_begin (suc n) zero toggle less = absurd (omega arith)
requests_begin (suc n) (suc m) toggle less = let rest = requests_begin n m (not toggle) (omega arith) in (rest.0, ap (λ l. mail (UploadSegment toggle) ∷ l) rest.1)

requests_long : (n : ℕ) (toggle : Bool) → length (requests n toggle) ≡ n
requests_long zero toggle = refl
requests_long (suc n) toggle = ap suc (requests_long n (not toggle))

module _ {S : Type 0} (o : Tables S) (law : AreLawful o) (eoe : Bool) (areas : Areas) (sized : AreMailboxes areas) where
  -- at most so many mails
  abbrev pub bound : S → Service → ℕ
  bound app (download t bytes) = suc (length bytes)
  bound app (upload t) = suc (value_length (o.upload app t))
  bound app (information a) = 1

  few_value : (v : Server S) (t : Target) → o.valid v.app ≡ true → (r : Result (List ℕ) ℕ) → o.upload v.app t ≡ r → value_length r ≤ 16384
  few_value v t sound (Ok bytes) is = law.short v.app t bytes sound is
  few_value v t sound (Err code) is = omega arith

  pub kept : (v : Server S) (q : Service) → o.valid v.app ≡ true → Kept o eoe areas v q (bound v.app q) (full o eoe areas v q)
  kept v (download t bytes) sound = kept_from_carried o eoe areas v (download t bytes) (suc (length bytes)) _
      (let few = sent_few decide never (serve o eoe areas.back) is_emission (suc (suc (suc (length bytes)))) v (download_mails areas.out t bytes) in
      omega (arith, few, download_few areas.out t bytes))
      (download_carried o eoe areas law (suc (suc (length bytes))) v t bytes sound (let least = sized.out_least in omega arith) (omega arith))
  kept v (upload t) sound = upload_by o eoe areas (turns o v.app (upload t)) (suc (suc (value_length (o.upload v.app t)))) v t (o.upload v.app t) refl
      (let least = sized.back_least in omega arith) (few_value v t sound (o.upload v.app t) refl) (omega arith) (omega arith)
  kept v (information a) sound = information_kept o eoe areas law 2 v a sound (let least = sized.back_least in omega arith)

  -- an SDO service has requests alone, each with one answer
  abbrev pub IsSdo : Service → Type 0
  IsSdo (download t bytes) = Unit {0}
  IsSdo (upload t) = Unit {0}
  IsSdo (information a) = ⊥

  pub mails_all : (q : Service) (n : ℕ) → IsSdo q → AllRequests (mails_of areas.out q n)
  mails_all (download t bytes) n sdo = download_all areas.out t bytes
  mails_all (upload t) n sdo = (refl, requests_all n false)
  mails_all (information a) n sdo = absurd sdo

  pub full_all : (v : Server S) (q : Service) → IsSdo q → AllRequests (full o eoe areas v q)
  full_all v q sdo = sent_each (serve o eoe areas.back) is_emission decide (λ m. is_request m ≡ true) (turns o v.app q) v (mails_of areas.out q (turns o v.app q)) (mails_all q (turns o v.app q) sdo)

  -- a first part that has all replies has all mails
  all_there : (v : Server S) (q : Service) → IsSdo q → (p r : List CoeMail) → full o eoe areas v q ≡ p ++ r →
      plain is_emission (given (serve o eoe areas.back) v p) ≡ plain is_emission (given (serve o eoe areas.back) v (full o eoe areas v q)) → r ≡ []
  all_there v q sdo p [] e same = refl
  all_there v q sdo p (h ∷ r) e same =
      let w = after (serve o eoe areas.back) v p in
      let replies = λ (ms : List CoeMail). plain is_emission (given (serve o eoe areas.back) v ms) in
      let cut : replies p ++ [] ≡ replies p ++ plain is_emission (given (serve o eoe areas.back) w (h ∷ r)) =
      append-nil (replies p) ∙ same ∙ ap (λ ms. plain is_emission (given (serve o eoe areas.back) v ms)) e ∙ plain_given-append (serve o eoe areas.back) is_emission v p (h ∷ r) in
      let none = append_cancel (replies p) [] (plain is_emission (given (serve o eoe areas.back) w (h ∷ r))) cut in
      let first = (append_none _ _ (sym (plain-append is_emission (serve o eoe areas.back w h).1 (given (serve o eoe areas.back) (serve o eoe areas.back w h).0 r)) ∙ sym none)).0 in
      let here : is_request h ≡ true = (each_append_right (λ m. is_request m ≡ true) p (h ∷ r) (subst AllRequests e (full_all v q sdo))).0 in
      absurd (let one = one_reply o eoe areas w h here in let wrong : one.0 ∷ [] ≡ [] = sym one.1 ∙ first in cc)

  sdo_counted : (v : Server S) (q : Service) → o.valid v.app ≡ true → IsSdo q → (p r : List CoeMail) → full o eoe areas v q ≡ p ++ r →
      plain is_emission (given (serve o eoe areas.back) v p) ≡ plain is_emission (given (serve o eoe areas.back) v (full o eoe areas v q)) → Behind (coe_exchange o eoe areas) v q p
  sdo_counted v q sound sdo p r e same =
      subst (Behind (coe_exchange o eoe areas) v q) (e ∙ ap (λ l. p ++ l) (all_there v q sdo p r e same) ∙ append-nil p) (kept v q sound).whole

  ask_counted : (v : Server S) (a : Ask) → o.valid v.app ≡ true → (p r : List CoeMail) → full o eoe areas v (information a) ≡ p ++ r →
      plain is_emission (given (serve o eoe areas.back) v p) ≡ plain is_emission (given (serve o eoe areas.back) v (full o eoe areas v (information a))) → Behind (coe_exchange o eoe areas) v (information a) p
  ask_counted v a sound [] r e same = absurd (let replied : ends areas.out (information a) [] ≡ Some (meaning_of o eoe v.app (information a)).reply =
      ap (ends areas.out (information a)) same ∙ (kept v (information a) sound).replied in cc)
  ask_counted v a sound (k ∷ p) [] e same = subst (Behind (coe_exchange o eoe areas) v (information a)) (e ∙ append-nil (k ∷ p)) (kept v (information a) sound).whole
  ask_counted v a sound (k ∷ p) (h ∷ r) e same = absurd (omega (arith, (kept v (information a) sound).few, ap length e, length-append p (h ∷ r)))

  counted : (v : Server S) (q : Service) → o.valid v.app ≡ true → (p r : List CoeMail) → full o eoe areas v q ≡ p ++ r →
      plain is_emission (given (serve o eoe areas.back) v p) ≡ plain is_emission (given (serve o eoe areas.back) v (full o eoe areas v q)) → Behind (coe_exchange o eoe areas) v q p
  counted v (download t bytes) sound p r e same = sdo_counted v (download t bytes) sound tt p r e same
  counted v (upload t) sound p r e same = sdo_counted v (upload t) sound tt p r e same
  counted v (information a) sound p r e same = ask_counted v a sound p r e same

  -- what a client has sent, on no more replies than it has turns: more turns and more requests don't matter
  pub planned_more : (q : Service) → IsSdo q → (n : ℕ) (hs : List CoeMail) → length hs < n → planned areas.out q hs ≡ said decide n (mails_of areas.out q n) hs
  planned_more (download t bytes) sdo n hs few =
      said_more decide (λ m. refl) (suc (length hs)) n (download_mails areas.out t bytes) [] hs (omega arith) few (inr refl) ∙ ap (λ ms. said decide n ms hs) (append-nil (download_mails areas.out t bytes))
  planned_more (upload t) sdo n hs few =
      let begins = requests_begin (length hs) n false (omega arith) in
      said_more decide (λ m. refl) (suc (length hs)) n (mail (Upload t.index t.sub t.all) ∷ requests (length hs) false) begins.0 hs (omega arith) few
      (inl (omega (arith, requests_long (length hs) false))) ∙ ap (λ ms. said decide n (mail (Upload t.index t.sub t.all) ∷ ms) hs) begins.1
  planned_more (information a) sdo n hs few = absurd sdo

  pub few_replies : (v : Server S) (q : Service) → o.valid v.app ≡ true → IsSdo q → (hs more : List CoeMail) → plain is_emission (given (serve o eoe areas.back) v (full o eoe areas v q)) ≡ hs ++ more → length hs < turns o v.app q
  few_replies v q sound sdo hs more e =
      let all = replies_counted o eoe areas v (full o eoe areas v q) (full_all v q sdo) in
      let less : length hs ≤ length (full o eoe areas v q) = omega (arith, all, ap length e, length-append hs more) in
      below v q sdo less (kept v q sound).few
    where
      below : (v : Server S) (q : Service) → IsSdo q → length hs ≤ length (full o eoe areas v q) → length (full o eoe areas v q) ≤ bound v.app q → length hs < turns o v.app q
      below v (download t bytes) sdo less few = omega arith
      below v (upload t) sdo less few = omega arith
      below v (information a) sdo less few = absurd sdo

  sdo_decides : (v : Server S) (q : Service) → IsSdo q → Decides (serve o eoe areas.back) is_emission decide (mails_of areas.out q (turns o v.app q))
  sdo_decides v q sdo = decided o eoe areas (mails_of areas.out q (turns o v.app q)) (mails_all q (turns o v.app q) sdo)

  sdo_follows : (v : Server S) (q : Service) → o.valid v.app ≡ true → IsSdo q → (hs more : List CoeMail) → plain is_emission (given (serve o eoe areas.back) v (full o eoe areas v q)) ≡ hs ++ more →
      IsPrefixOf (planned areas.out q hs) (full o eoe areas v q)
  sdo_follows v q sound sdo hs more e = subst (λ ms. IsPrefixOf ms (full o eoe areas v q)) (sym (planned_more q sdo (turns o v.app q) hs (few_replies v q sound sdo hs more e)))
      (follows (serve o eoe areas.back) is_emission decide (turns o v.app q) v (mails_of areas.out q (turns o v.app q)) hs more (sdo_decides v q sdo) e)

  sdo_planned : (v : Server S) (q : Service) → o.valid v.app ≡ true → IsSdo q → planned areas.out q (plain is_emission (given (serve o eoe areas.back) v (full o eoe areas v q))) ≡ full o eoe areas v q
  sdo_planned v q sound sdo =
      let replies = plain is_emission (given (serve o eoe areas.back) v (full o eoe areas v q)) in
      planned_more q sdo (turns o v.app q) replies (few_replies v q sound sdo replies [] (sym (append-nil replies)))
      ∙ all_said (serve o eoe areas.back) is_emission decide (turns o v.app q) v (mails_of areas.out q (turns o v.app q)) (sdo_decides v q sdo)

  -- an information service has one mail, whatever is heard
  pub ask_planned : (a : Ask) (hs : List CoeMail) → planned areas.out (information a) hs ≡ information_mail a ∷ []
  ask_planned a hs = said_last decide never (length hs) (information_mail a) hs

  pub ask_full : (v : Server S) (a : Ask) → full o eoe areas v (information a) ≡ information_mail a ∷ []
  ask_full v a = sent_last decide never (serve o eoe areas.back) is_emission 2 v (information_mail a)

  pub client_follows : (v : Server S) (q : Service) → o.valid v.app ≡ true → (hs more : List CoeMail) → plain is_emission (given (serve o eoe areas.back) v (full o eoe areas v q)) ≡ hs ++ more →
      IsPrefixOf (planned areas.out q hs) (full o eoe areas v q)
  client_follows v (download t bytes) sound = sdo_follows v (download t bytes) sound tt
  client_follows v (upload t) sound = sdo_follows v (upload t) sound tt
  client_follows v (information a) sound = λ hs more e. subst (λ ms. IsPrefixOf ms (full o eoe areas v (information a))) (ask_full v a ∙ sym (ask_planned a hs)) (prefix_refl (full o eoe areas v (information a)))

  client_plans : (v : Server S) (q : Service) → o.valid v.app ≡ true → planned areas.out q (plain is_emission (given (serve o eoe areas.back) v (full o eoe areas v q))) ≡ full o eoe areas v q
  client_plans v (download t bytes) sound = sdo_planned v (download t bytes) sound tt
  client_plans v (upload t) sound = sdo_planned v (upload t) sound tt
  client_plans v (information a) sound = ask_planned a (plain is_emission (given (serve o eoe areas.back) v (full o eoe areas v (information a)))) ∙ sym (ask_full v a)

  -- a service leaves tables of which the laws speak
  pub issued_valid : (app : S) (e : Option Emission) → o.valid app ≡ true → o.valid (issued o app e).0 ≡ true
  issued_valid app None sound = sound
  issued_valid app (Some (emergency octets)) sound = sound
  issued_valid app (Some (packet octets)) sound = law.stays_cut app octets sound

  download_valid : (app : S) (t : Target) (bytes : List ℕ) → o.valid app ≡ true → (r : Result S ℕ) → o.download app t bytes ≡ r → o.valid (download_means o eoe app t bytes r).app ≡ true
  download_valid app t bytes sound (Ok changed) is = issued_valid changed (emission_of eoe t bytes) (law.stays app changed t bytes sound is)
  download_valid app t bytes sound (Err code) is = sound

  value_valid : (app : S) → o.valid app ≡ true → (r : Result (List ℕ) ℕ) → o.valid (value_means app r).app ≡ true
  value_valid app sound (Ok bytes) = sound
  value_valid app sound (Err code) = sound

  means_valid : (app : S) (q : Service) → o.valid app ≡ true → o.valid (meaning_of o eoe app q).app ≡ true
  means_valid app (download t bytes) sound = download_valid app t bytes sound (o.download app t bytes) refl
  means_valid app (upload t) sound = value_valid app sound (o.upload app t)
  means_valid app (information a) sound = value_valid app sound (o.info app a)

  more_handled : (b : Bool) (n : ℕ) → n ≤ one_more b n
  more_handled true n = omega arith
  more_handled false n = omega arith

  -- THE EXCHANGE LAW OF CoE
  pub coe_law : IsLawful (coe_exchange o eoe areas)
  coe_law = record {
    ready = λ v q ready valid. ap o.valid (kept v q ready).whole.app ∙ means_valid v.app q ready;
    whole = λ v q ready valid. (kept v q ready).whole;
    all_emitted = λ v q ready valid. (kept v q ready).all_emitted;
    replied = λ v q ready valid replies. (kept v q ready).replied;
    silent = λ v q ready valid posts. absurd (cc);
    part = λ v q ready valid p r e. (kept v q ready).part p r e;
    counted = λ v q ready valid replies p r e same. counted v q ready p r e same;
    none = λ q. ends_none areas.out q;
    ended = λ q hs h more r e. closed h more areas.out q hs r e;
    follows = λ v q ready valid hs more e. client_follows v q ready hs more e;
    all_planned = λ v q ready valid. client_plans v q ready;
    unanswered = λ q hs posts. absurd (cc);
    some = λ v q ready valid posts. absurd (cc);
    grows = λ v m. more_handled (coe_outcome o eoe areas.back v.app v.transfer m).counts v.handled;
  }
