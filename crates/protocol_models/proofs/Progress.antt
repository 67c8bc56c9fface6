-- A client that has heard all replies to the mails that it has sent has a further mail, until it has sent all.
use Rattle.std.proofs.Common.{◌≡◌, ℕ, zero, suc, Bool, true, List, [], ◌∷◌, ◌++◌, length, Option, None, Some, refl, sym, ap, subst, ◌∙◌, arith, length-append}
use Rattle.exchange_model.specs.Areas.{Areas, AreMailboxes}
use Rattle.exchange_model.specs.Prefix.{IsPrefixOf}
use Rattle.exchange_model.specs.Exchange.{after, given, plain}
use Rattle.exchange_model.specs.Dialogue.{Turn, next, again, stop, chosen, turn_at, rest_at, said, sent}
use Rattle.exchange_model.proofs.Words.{plain_given-append, plain-append}
use Rattle.protocol_models.specs.CoeMails.{CoeMail, is_emission}
use Rattle.protocol_models.specs.Tables.{Ask, Tables, AreLawful}
use Rattle.protocol_models.specs.CoeServer.{Server, serve}
use Rattle.protocol_models.specs.CoeMeaning.{Service, download, upload, information}
use Rattle.protocol_models.specs.CoeClient.{decide, mails_of, information_mail}
use Rattle.protocol_models.specs.CoeModel.{turns, planned, full}
use Rattle.protocol_models.proofs.CoeSpeaks.{AllRequests, one_reply, never}
use Rattle.protocol_models.proofs.CoeLaw.{IsSdo, mails_all, planned_more, few_replies, ask_planned, ask_full}

-- what is decided on the first answer stays so, and the others are left
turn_first : (m a : CoeMail) (hs : List CoeMail) (t : Turn) → decide m (a ∷ []) ≡ Some t → (turn_at decide m [] (a ∷ hs) ≡ Some t) × (rest_at decide m [] (a ∷ hs) ≡ hs)
turn_first m a [] t is = (is, refl)
turn_first m a (h ∷ hs) t is = (rw is refl, rw is refl)

module _ {S : Type 0} (o : Tables S) (eoe : Bool) (areas : Areas) where
  -- what a client that has these mails has sent, on the replies to a first part of them: that part, and the mail behind it
  goes_by : (fuel : ℕ) (v : Server S) (ms p : List CoeMail) (m : CoeMail) (r : List CoeMail) → AllRequests ms → sent (serve o eoe areas.back) is_emission decide fuel v ms ≡ p ++ m ∷ r →
      (rest : List CoeMail) × (said decide fuel ms (plain is_emission (given (serve o eoe areas.back) v p)) ≡ p ++ m ∷ rest)
  goes_by zero v ms [] m r all e = absurd (cc)
  goes_by zero v ms (k ∷ p) m r all e = absurd (cc)
  goes_by (suc fuel) v [] [] m r all e = absurd (cc)
  goes_by (suc fuel) v [] (k ∷ p) m r all e = absurd (cc)
  goes_by (suc fuel) v (x ∷ ms) [] m r all e = let same : x ≡ m = cc in ([], ap (λ y. y ∷ []) same)
  goes_by (suc fuel) v (x ∷ ms) (k ∷ p) m r all e =
      let one = one_reply o eoe areas v x all.0 in
      by one.0 one.1 (decide x (one.0 ∷ [])) refl (λ behind. goes_by fuel (serve o eoe areas.back v x).0 ms p m r all.1 behind)
    where
      later : List CoeMail
      later = plain is_emission (given (serve o eoe areas.back) (serve o eoe areas.back v x).0 p)

      heard_by : (a : CoeMail) → plain is_emission (serve o eoe areas.back v x).1 ≡ a ∷ [] → x ≡ k → plain is_emission (given (serve o eoe areas.back) v (k ∷ p)) ≡ a ∷ later
      heard_by a one same =
          ap (λ y. plain is_emission (given (serve o eoe areas.back) v (y ∷ p))) (sym same)
          ∙ plain-append is_emission (serve o eoe areas.back v x).1 (given (serve o eoe areas.back) (serve o eoe areas.back v x).0 p)
          ∙ ap (λ l. l ++ later) one

      tail_is : (a : CoeMail) (t : Option Turn) → plain is_emission (serve o eoe areas.back v x).1 ≡ a ∷ [] → decide x (a ∷ []) ≡ t →
          (x ≡ k) × (chosen t (sent (serve o eoe areas.back) is_emission decide fuel (serve o eoe areas.back v x).0 ms) (sent (serve o eoe areas.back) is_emission decide fuel (serve o eoe areas.back v x).0 (x ∷ ms)) [] ≡ p ++ m ∷ r)
      tail_is a t one is =
          let whole : x ∷ chosen (turn_at decide x [] (plain is_emission (serve o eoe areas.back v x).1)) (sent (serve o eoe areas.back) is_emission decide fuel (serve o eoe areas.back v x).0 ms) (sent (serve o eoe areas.back) is_emission decide fuel (serve o eoe areas.back v x).0 (x ∷ ms)) [] ≡ k ∷ (p ++ m ∷ r) = e in
          let turned : turn_at decide x [] (plain is_emission (serve o eoe areas.back v x).1) ≡ t = ap (turn_at decide x []) one ∙ is in
          let known = subst (λ u. x ∷ chosen u (sent (serve o eoe areas.back) is_emission decide fuel (serve o eoe areas.back v x).0 ms) (sent (serve o eoe areas.back) is_emission decide fuel (serve o eoe areas.back v x).0 (x ∷ ms)) [] ≡ k ∷ (p ++ m ∷ r)) turned whole in
          (cc, cc)

      by : (a : CoeMail) → plain is_emission (serve o eoe areas.back v x).1 ≡ a ∷ [] → (t : Option Turn) → decide x (a ∷ []) ≡ t →
          (sent (serve o eoe areas.back) is_emission decide fuel (serve o eoe areas.back v x).0 ms ≡ p ++ m ∷ r → (rest : List CoeMail) × (said decide fuel ms later ≡ p ++ m ∷ rest)) →
          (rest : List CoeMail) × (said decide (suc fuel) (x ∷ ms) (plain is_emission (given (serve o eoe areas.back) v (k ∷ p))) ≡ (k ∷ p) ++ m ∷ rest)
      by a one None is goes = let t = tail_is a None one is in absurd (let none = ap length t.1 in omega (arith, none, length-append p (m ∷ r)))
      by a one (Some stop) is goes = let t = tail_is a (Some stop) one is in absurd (let none = ap length t.1 in omega (arith, none, length-append p (m ∷ r)))
      by a one (Some again) is goes = absurd (never x (a ∷ []) is)
      by a one (Some next) is goes =
          let t = tail_is a (Some next) one is in
          let rest = goes t.1 in
          let d = turn_first x a later next is in
          (rest.0, ap (said decide (suc fuel) (x ∷ ms)) (heard_by a one t.0) ∙ rw (d.0, d.1, rest.1) (ap (λ y. y ∷ (p ++ m ∷ rest.0)) t.0))

  ask_goes : (v : Server S) (a : Ask) (p : List CoeMail) (m : CoeMail) (r : List CoeMail) → information_mail a ∷ [] ≡ p ++ m ∷ r → IsPrefixOf (p ++ m ∷ []) (information_mail a ∷ [])
  ask_goes v a [] m r e = ([], let same : information_mail a ≡ m = cc in ap (λ y. y ∷ []) (sym same))
  ask_goes v a (k ∷ p) m r e = absurd (let n = ap length e in omega (arith, n, length-append p (m ∷ r)))

  module _ (law : AreLawful o) (sized : AreMailboxes areas) where
    sdo_goes : (v : Server S) (q : Service) → o.valid v.app ≡ true → IsSdo o law eoe areas sized q → (p : List CoeMail) (m : CoeMail) (r : List CoeMail) → full o eoe areas v q ≡ p ++ m ∷ r →
        IsPrefixOf (p ++ m ∷ []) (planned areas.out q (plain is_emission (given (serve o eoe areas.back) v p)))
    sdo_goes v q sound sdo p m r e =
        let hs = plain is_emission (given (serve o eoe areas.back) v p) in
        let more = plain is_emission (given (serve o eoe areas.back) (after (serve o eoe areas.back) v p) (m ∷ r)) in
        let all : plain is_emission (given (serve o eoe areas.back) v (full o eoe areas v q)) ≡ hs ++ more = ap (λ ms. plain is_emission (given (serve o eoe areas.back) v ms)) e ∙ plain_given-append (serve o eoe areas.back) is_emission v p (m ∷ r) in
        let goes = goes_by (turns o v.app q) v (mails_of areas.out q (turns o v.app q)) p m r (mails_all o law eoe areas sized q (turns o v.app q) sdo) e in
        let is = planned_more o law eoe areas sized q sdo (turns o v.app q) hs (few_replies o law eoe areas sized v q sound sdo hs more all) in
        (goes.0, append_one p m goes.0 ∙ sym (is ∙ goes.1))
      where
        append_one : (p : List CoeMail) (m : CoeMail) (rest : List CoeMail) → (p ++ m ∷ []) ++ rest ≡ p ++ m ∷ rest
        append_one [] m rest = refl
        append_one (k ∷ p) m rest = ap (λ l. k ∷ l) (append_one p m rest)

    pub goes_on : (v : Server S) (q : Service) → o.valid v.app ≡ true → (p : List CoeMail) (m : CoeMail) (r : List CoeMail) → full o eoe areas v q ≡ p ++ m ∷ r →
        IsPrefixOf (p ++ m ∷ []) (planned areas.out q (plain is_emission (given (serve o eoe areas.back) v p)))
    goes_on v (download t bytes) sound p m r e = sdo_goes v (download t bytes) sound tt p m r e
    goes_on v (upload t) sound p m r e = sdo_goes v (upload t) sound tt p m r e
    goes_on v (information a) sound p m r e =
        subst (IsPrefixOf (p ++ m ∷ [])) (sym (ask_planned o law eoe areas sized a (plain is_emission (given (serve o eoe areas.back) v p))))
        (ask_goes v a p m r (sym (ask_full o law eoe areas sized v a) ∙ e))
