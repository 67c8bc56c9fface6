-- Each mail of a write brings a reply at last.
use Rattle.std.proofs.Common.{◌≡◌, ℕ, ◌+◌, true, false, suc, List, [], ◌∷◌, ◌++◌, length, Option, None, Some, append-nil, refl, sym, ap, ◌∙◌, subst, arith, lt-ltb}
use Rattle.exchange_model.specs.Areas.{Areas, AreMailboxes}
use Rattle.exchange_model.specs.Exchange.{AnswersLast, after, given, plain}
use Rattle.exchange_model.proofs.Turns.{sent_each, each_append_right}
use Rattle.exchange_model.proofs.Lists.{append_cancel, append_none}
use Rattle.exchange_model.proofs.Words.{plain-append, plain_given-append}
use Rattle.exchange_model.proofs.Lasts.{lifted_last}
use Rattle.protocol_models.specs.Files.{Files, AreLawful, AreSpelled}
use Rattle.mailbox_mail.specs.declared.outcome.ReplyKind.{ReplyKind}
use Rattle.protocol_models.specs.FoeMails.{FoeMail, mail, Read, is_emission}
use Rattle.protocol_models.specs.FoeServer.{Server, serve, ended, idle, opened, refusal}
use Rattle.protocol_models.specs.FoeMeaning.{Service, read, write, read_means, is_file_read}
use Rattle.protocol_models.specs.FoeClient.{acks, mails_of, decide, ends}
use Rattle.protocol_models.specs.FoeModel.{turns, full, foe_exchange, read_length}
use Rattle.protocol_models.specs.FoeOctets.{foe_mail_heard, foe_mail_written, foe_mail_exchange}
use Rattle.protocol_models.proofs.FoeCarries.{talk, talk_over}
use Rattle.protocol_models.proofs.FoeLaw.{foe_law}
use Rattle.protocol_models.proofs.ReadCounts.{read_counts}
use Rattle.protocol_models.proofs.FoeSpeaks.{AllAsked, is_asked, one_reply, packets_asked}
use Rattle.protocol_models.proofs.FoeSpelled.{foe_spells}

module _ {S : Type 0} (o : Files S) (law : AreLawful o) (areas : Areas) (sized : AreMailboxes areas) where
  -- the mails of a write
  write_asked : (v : Server S) (name : List ℕ) (pass : ℕ) (bytes : List ℕ) → AllAsked (full o areas v (write name pass bytes))
  write_asked v name pass bytes = sent_each (serve o areas.out areas.back) is_emission (decide areas.out) (λ m. is_asked m ≡ true) (turns o v.app (write name pass bytes)) v
      (mails_of areas.out (write name pass bytes) (turns o v.app (write name pass bytes))) (refl, packets_asked (suc (length bytes)) areas.out 1 bytes)

  -- where all replies came, none of such mails is left
  all_there : (v : Server S) (q : Service) → AllAsked (full o areas v q) → (p r : List FoeMail) → full o areas v q ≡ p ++ r →
      plain is_emission (given (serve o areas.out areas.back) v p) ≡ plain is_emission (given (serve o areas.out areas.back) v (full o areas v q)) → r ≡ []
  all_there v q all p [] e same = refl
  all_there v q all p (h ∷ r) e same =
      let step = serve o areas.out areas.back in
      let w = after step v p in
      let of = λ (ms : List FoeMail). plain is_emission (given step v ms) in
      let cut : of p ++ [] ≡ of p ++ plain is_emission (given step w (h ∷ r)) =
      append-nil (of p) ∙ same ∙ ap (λ ms. plain is_emission (given step v ms)) e ∙ plain_given-append step is_emission v p (h ∷ r) in
      let none = append_cancel (of p) [] (plain is_emission (given step w (h ∷ r))) cut in
      let first = (append_none _ _ (sym (plain-append is_emission (step w h).1 (given step (step w h).0 r)) ∙ sym none)).0 in
      let here : is_asked h ≡ true = (each_append_right (λ m. is_asked m ≡ true) p (h ∷ r) (subst AllAsked e all)).0 in
      absurd (let one = one_reply o areas w h here in let wrong : one.0 ∷ [] ≡ [] = sym one.1 ∙ first in cc)

  -- a refused read has its request alone
  read_alone : (v : Server S) (name : List ℕ) (pass code : ℕ) → o.allowed v.app name pass false ≡ Some code → full o areas v (read name pass) ≡ mail (Read pass (record { items = name })) ∷ []
  read_alone v name pass code is =
      let turned : turns o v.app (read name pass) ≡ suc (suc (suc 0)) = ap (λ found. suc (suc (suc (read_length found (o.get v.app name))))) is in
      let m = mail (Read pass (record { items = name })) in
      ap (λ n. talk o areas n v (mails_of areas.out (read name pass) n)) turned
      ∙ talk_over o areas 2 v m (refusal code) (ended v.app idle (refusal code)) (acks 3 1) (ap (opened areas.back v.app (o.get v.app name)) is) refl refl

  -- so with its reply it is there
  alone_there : (m : FoeMail) (ms p r : List FoeMail) → ms ≡ m ∷ [] → ms ≡ p ++ r → (p ≡ [] → ⊥) → r ≡ []
  alone_there m ms [] r one e some = absurd (some refl)
  alone_there m ms (k ∷ p) r one e some = (append_none p r (let rest : [] ≡ p ++ r = (let both : m ∷ [] ≡ k ∷ (p ++ r) = sym one ∙ e in cc) in sym rest)).1

  pub foe_last : AnswersLast (foe_exchange o areas) is_file_read
  foe_last v (read name pass) ready valid answers quiet p r e same = by (o.allowed v.app name pass false) refl
    where
      of : List FoeMail → List FoeMail
      of ms = plain is_emission (given (serve o areas.out areas.back) v ms)

      by : (found : Option ℕ) → o.allowed v.app name pass false ≡ found → r ≡ []
      by (Some code) is = alone_there (mail (Read pass (record { items = name }))) (full o areas v (read name pass)) p r (read_alone v name pass code is) e (λ none.
          (let l = foe_law o law areas sized in
          let no : None ≡ Some ((foe_exchange o areas).reply v.app (read name pass)) = ap (λ ms. ends areas (read name pass) (of ms)) (sym none) ∙ ap (ends areas (read name pass)) same ∙ l.replied v (read name pass) ready valid refl in
          absurd (cc)))
      by None is =
          let l = foe_law o law areas sized in
          let hs = plain is_emission (given (serve o areas.out areas.back) v (full o areas v (read name pass))) in
          let reply : ends areas (read name pass) hs ≡ Some (ReplyKind.Value, o.get v.app name) =
          l.replied v (read name pass) ready valid refl ∙ ap (λ found. Some (read_means o v.app name found).reply) is in
          let count = read_counts areas name pass hs ReplyKind.Value (o.get v.app name) reply in
          let more : length (full o areas v (read name pass)) ≡ 1 + length hs = ap length (sym (l.all_planned v (read name pass) ready valid)) ∙ count in
          absurd (let no : true ≡ false = sym (lt-ltb (length hs) (length (full o areas v (read name pass))) (omega (arith, more))) ∙ quiet in cc)
  foe_last v (write name pass bytes) ready valid answers quiet p r e same = all_there v (write name pass bytes) (write_asked v name pass bytes) p r e same

  pub foe_mail_last : AreSpelled o → AnswersLast (foe_mail_exchange o areas) is_file_read
  foe_mail_last spelled = lifted_last (foe_exchange o areas) foe_mail_heard foe_mail_written (foe_spells o law spelled areas sized) is_file_read foe_last
