-- SoE services from whatever server, with an unfinished join or without one.
use Rattle.std.proofs.Common.{◌≡◌, ◌≢◌, ◌⊎◌, inl, inr, ℕ, zero, suc, ◌+◌, ◌-◌, ◌<◌, nat_le, Bool, true, false, List, [], ◌∷◌, ◌++◌, length, take, drop, Option, None, Some, Result, Ok, Err, refl, ap, sym, ◌∙◌, subst, arith, append-nil, length-drop, le-leb, ◌==◌, if◌then◌else◌}
use Rattle.std.proofs.lemmas.Bool.{cases_lt, lt-leb}
use Rattle.std.proofs.lemmas.List.{take-append-drop, append_assoc}
use Rattle.idn_table.specs.of_exchange_model.Areas.{Areas, AreMailboxes}
use Rattle.idn_table.specs.of_exchange_model.Exchange.{after, given, plain, emitted}
use Rattle.idn_table.proofs.of_exchange_model.Lists.{prefix_refl}
use Rattle.eoe_server.specs.of_protocol_models.Elements.{Target, Elements, AreLawful}
use Rattle.eoe_server.specs.of_protocol_models.SoeMails.{SoeMail, mail, unread, failed, other, SoeFault, Short, Opcode, Incomplete, message, is_emission, parts_of, fragments}
use Rattle.eoe_server.specs.of_protocol_models.SoeServer.{Join, Server, serve, soe_outcome, ahead, gathered, asked, written, answered, silent, joined, target_of, takes_whole, takes_unread, behind, most}
use Rattle.eoe_server.specs.of_protocol_models.SoeClient.{Service, read, write, mails_of, meaning_of, ends}
use Rattle.idn_table.proofs.of_protocol_models.SoeCarries.{Carried, Idle, Came, came_more, carried_one, waiting, carried_more, left_by, answer_to}
use Rattle.idn_table.proofs.of_protocol_models.SoeLaw.{none_emitted, all_plain, closed, ends_none, answer_to_read, read_carried, read_app, write_app, value_replied, write_replied, write_ready, grows}
use Rattle.serving_model.specs.Tagged.{IsServed, Untouched, Touched}
use Rattle.slave_parts.specs.SoeServed.{ahead_of, met, soe_served, table_of}

-- what is cut is cut once
take_take : {X : Type 0} (n : ℕ) (xs ys : List X) → take n (take n xs ++ ys) ≡ take n (xs ++ ys)
take_take zero xs ys = refl
take_take (suc n) [] ys = refl
take_take (suc n) (x ∷ xs) ys = ap (λ l. x ∷ l) (take_take n xs ys)

came_of : (join : Option Join) (t : Target) (incomplete : Bool) (field : ℕ) (bytes : List ℕ) → ahead join (message 3 incomplete t field bytes) ≡ ahead_of join t
came_of None t incomplete field bytes = refl
came_of (Some j) t incomplete field bytes = refl

module _ {S : Type 0} (o : Elements S) (lawful : AreLawful o) (areas : Areas) (sized : AreMailboxes areas) where
  -- the last fragment writes what was gathered
  last_all : (v : Server S) (t : Target) (bytes l : List ℕ) (r : Result S ℕ) → gathered v.join (message 3 false t t.idn bytes) ≡ l → o.write v.app t l ≡ r →
      Carried o areas.back v (mail (message 3 false t t.idn bytes) ∷ []) (left_by v.app r) (answer_to t r)
  last_all v t bytes l (Ok changed) all is =
      carried_one o areas.back v (record { app = changed; handled = suc v.handled; join = None }) _ _ (ap (λ k. behind v.handled (written v.app t (o.write v.app t k))) all ∙ ap (λ r. behind v.handled (written v.app t r)) is) refl refl
  last_all v t bytes l (Err code) all is =
      carried_one o areas.back v (record { app = v.app; handled = suc v.handled; join = None }) _ _ (ap (λ k. behind v.handled (written v.app t (o.write v.app t k))) all ∙ ap (λ r. behind v.handled (written v.app t r)) is) refl refl

  -- the fragments of a write, behind octets that came: they are written with these, cut at the length of a join
  writes_on : (fuel part : ℕ) (v : Server S) (t : Target) (got bytes : List ℕ) → 0 < part → length bytes < fuel → Came o areas.back v.join t got →
      Carried o areas.back v (fragments fuel 3 t part bytes) (left_by v.app (o.write v.app t (take most (got ++ bytes)))) (answer_to t (o.write v.app t (take most (got ++ bytes))))
  writes_on zero part v t got bytes some few came = absurd (omega (arith, few))
  writes_on (suc fuel) part v t got bytes some few came = elim (cases_lt part (length bytes)) [
    | inr ends ↦ rw (le-leb (length bytes) part ends)
        (last_all v t bytes (take most (got ++ bytes)) (o.write v.app t (take most (got ++ bytes))) (ap (λ l. take most (l ++ bytes)) (came false t.idn bytes)) refl)
    | inl more ↦
        let front = take part bytes in
        let back = drop part bytes in
        let back_is : length back ≡ length bytes - part = length-drop part bytes in
        let kept = take most (got ++ front) in
        let all : take most (kept ++ back) ≡ take most (got ++ bytes) =
        take_take most (got ++ front) back ∙ ap (take most) (append_assoc got front back ∙ ap (λ l. got ++ l) (take-append-drop part bytes)) in
        let field = parts_of part (length bytes - part) in
        let here : serve o areas.back v (mail (message 3 true t field front)) ≡ (waiting o areas.back v t kept, []) =
        ap (λ l. behind v.handled (silent v.app (Some (record { opcode = 3; drive = t.drive; elements = t.elements; octets = l })))) (ap (λ l. take most (l ++ front)) (came true field front)) in
        let rest = writes_on fuel part (waiting o areas.back v t kept) t kept back some (omega (arith, back_is, some, more, few)) (came_more o areas.back t kept) in
        rw (lt-leb (length bytes) part more) (carried_more o areas.back v (waiting o areas.back v t kept) (mail (message 3 true t field front)) (fragments fuel 3 t part back) _ _ here refl refl
        (subst (λ l. Carried o areas.back (waiting o areas.back v t kept) (fragments fuel 3 t part back) (left_by v.app (o.write v.app t l)) (answer_to t (o.write v.app t l))) all rest))
  ]

  abbrev pub gives : Server S → Service → List SoeMail
  gives v (read t) = answer_to_read o lawful areas sized t (o.read v.app t)
  gives v (write t bytes) = answer_to t (o.write v.app t (take most (ahead_of v.join t ++ bytes)))

  pub kept : (v : Server S) (q : Service) → Carried o areas.back v (mails_of areas.out q) (meaning_of o v.app (met v.join q)).app (gives v q)
  kept v (read t) =
      subst (λ a. Carried o areas.back v (mails_of areas.out (read t)) a (answer_to_read o lawful areas sized t (o.read v.app t))) (sym (read_app o lawful areas sized v.app (o.read v.app t))) (read_carried o lawful areas sized v t (o.read v.app t) refl)
  kept v (write t bytes) =
      let least = sized.out_least in
      subst (λ a. Carried o areas.back v (mails_of areas.out (write t bytes)) a (answer_to t (o.write v.app t (take most (ahead_of v.join t ++ bytes))))) (sym (write_app o lawful areas sized v.app (o.write v.app t (take most (ahead_of v.join t ++ bytes)))))
      (writes_on (suc (length bytes)) (areas.out - 10) v t (ahead_of v.join t) bytes (omega (arith, least)) (omega arith) (λ incomplete field octets. came_of v.join t incomplete field octets))

  replies : (v : Server S) (q : Service) → o.valid v.app ≡ true → ends q (gives v q) ≡ Some (meaning_of o v.app (met v.join q)).reply
  replies v (read t) fine = value_replied o lawful areas sized t v.app (o.read v.app t) fine refl
  replies v (write t bytes) fine = write_replied o lawful areas sized t (take most (ahead_of v.join t ++ bytes)) v.app (o.write v.app t (take most (ahead_of v.join t ++ bytes))) fine refl

  means_ready : (app : S) (q : Service) → o.valid app ≡ true → o.valid (meaning_of o app q).app ≡ true
  means_ready app (read t) fine = ap o.valid (read_app o lawful areas sized app (o.read app t)) ∙ fine
  means_ready app (write t bytes) fine = write_ready o lawful areas sized app t bytes (o.write app t bytes) fine refl

  all_of : (v : Server S) (q : Service) → plain is_emission (given (serve o areas.back) v (mails_of areas.out q)) ≡ gives v q
  all_of v q = all_plain (given (serve o areas.back) v (mails_of areas.out q)) ∙ (kept v q).given

  touched : (v : Server S) (q : Service) → Touched (soe_served o areas) table_of v q (mails_of areas.out q)
  touched v q = record {
    core_is = (kept v q).app;
    handled = (kept v q).handled;
    emitted = ([], append-nil _ ∙ none_emitted (given (serve o areas.back) v (mails_of areas.out q)));
  }

  untouched : (v : Server S) (p : List SoeMail) → Idle o areas.back v p → Untouched (soe_served o areas) table_of v p
  untouched v p idle = record { core_is = idle.app; handled = idle.handled; emitted = none_emitted (given (serve o areas.back) v p) }

  part_of : (v : Server S) (q : Service) (p r : List SoeMail) → mails_of areas.out q ≡ p ++ r → Untouched (soe_served o areas) table_of v p ⊎ Touched (soe_served o areas) table_of v q p
  part_of v q p [] e = inr (subst (Touched (soe_served o areas) table_of v q) (e ∙ append-nil p) (touched v q))
  part_of v q p (h ∷ r) e = inl (untouched v p ((kept v q).late p h r e))

  counted : (v : Server S) (q : Service) → o.valid v.app ≡ true → (p r : List SoeMail) → mails_of areas.out q ≡ p ++ r →
      plain is_emission (given (serve o areas.back) v p) ≡ plain is_emission (given (serve o areas.back) v (mails_of areas.out q)) → Touched (soe_served o areas) table_of v q p
  counted v q fine p [] e same = subst (Touched (soe_served o areas) table_of v q) (e ∙ append-nil p) (touched v q)
  counted v q fine p (h ∷ r) e same = absurd (
      let nothing : ends q [] ≡ Some (meaning_of o v.app (met v.join q)).reply =
      ap (λ ms. ends q (plain is_emission ms)) (sym ((kept v q).late p h r e).given) ∙ ap (ends q) (same ∙ all_of v q) ∙ replies v q fine in
      let none = ends_none q in cc)

  whole : (v : Server S) (q : Service) → after (serve o areas.back) v (mails_of areas.out q) ≡ (soe_served o areas).exec v q
  whole v q = let k = kept v q in λ i. record { app = k.app i; handled = k.handled i; join = k.join i }

  some_fragments : (fuel opcode part : ℕ) (t : Target) (bytes : List ℕ) → fragments (suc fuel) opcode t part bytes ≢ []
  some_fragments fuel opcode part t bytes = go (nat_le (length bytes) part)
    where
      go : (b : Bool) → (if b then mail (message opcode false t t.idn bytes) ∷ [] else mail (message opcode true t (parts_of part (length bytes - part)) (take part bytes)) ∷ fragments fuel opcode t part (drop part bytes)) ≢ []
      go true e = absurd (cc)
      go false e = absurd (cc)

  some_mails : (q : Service) → mails_of areas.out q ≢ []
  some_mails (read t) e = absurd (cc)
  some_mails (write t bytes) e = some_fragments (length bytes) 3 (areas.out - 10) t bytes e

  -- any mail leaves a table of which the laws speak
  passes : (v : Server S) (m : SoeMail) → o.valid v.app ≡ true → o.valid (serve o areas.back v m).0.app ≡ true
  passes v (mail s) fine = go s.incomplete
    where
      read_fine : (r : Result (List ℕ) ℕ) → o.valid (asked areas.back v.app (target_of s) r).app ≡ true
      read_fine (Ok bytes) = fine
      read_fine (Err code) = fine

      write_fine : (octets : List ℕ) (r : Result S ℕ) → o.write v.app (target_of s) octets ≡ r → o.valid (written v.app (target_of s) r).app ≡ true
      write_fine octets (Ok changed) e = lawful.stays v.app changed (target_of s) octets fine e
      write_fine octets (Err code) e = fine

      whole_fine : (b c : Bool) → o.valid (if b then asked areas.back v.app (target_of s) (o.read v.app (target_of s)) else if c then written v.app (target_of s) (o.write v.app (target_of s) (gathered v.join s)) else answered v.app None (failed 4 ∷ [])).app ≡ true
      whole_fine true c = read_fine (o.read v.app (target_of s))
      whole_fine false true = write_fine (gathered v.join s) (o.write v.app (target_of s) (gathered v.join s)) refl
      whole_fine false false = fine

      go : (b : Bool) → o.valid (if b then silent v.app (Some (joined v.join s)) else takes_whole o areas.back v.app v.join s).app ≡ true
      go true = fine
      go false = whole_fine (s.opcode == 1) (s.opcode == 3)
  passes v (unread fault incomplete) fine = go fault incomplete
    where
      go : (fault : SoeFault) (b : Bool) → o.valid (takes_unread v.app v.join fault b).app ≡ true
      go Short b = fine
      go Opcode true = fine
      go Opcode false = fine
      go Incomplete b = fine
  passes v (failed detail) fine = fine
  passes v (other body) fine = fine

  pub soe_is_served : IsServed (soe_served o areas) table_of
  soe_is_served = record {
    ready = λ v q fine valid. means_ready v.app (met v.join q) fine;
    passes = λ v m fine. passes v m fine;
    whole = λ v q fine valid. whole v q;
    counts = λ v q fine valid. refl;
    all_emitted = λ v q fine valid. none_emitted (given (serve o areas.back) v (mails_of areas.out q));
    replied = λ v q fine valid answers. ap (ends q) (all_of v q) ∙ replies v q fine;
    silent = λ v q fine valid posts. absurd (cc);
    part = λ v q fine valid p r e. part_of v q p r e;
    counted = λ v q fine valid answers p r e same. counted v q fine p r e same;
    none = ends_none;
    ended = closed;
    follows = λ v q fine valid hs more e. prefix_refl (mails_of areas.out q);
    all_planned = λ v q fine valid. refl;
    unanswered = λ q hs posts. absurd (cc);
    some = λ v q fine valid. some_mails q;
    grows = λ v m. grows o lawful areas sized (soe_outcome o areas.back v.app v.join m).counts v.handled;
  }
