-- A mail that is passed on as a service: its last reply tells that it is the last, where none is made up that goes on.
use Rattle.std.proofs.Common.{◌≡◌, inl, inr, not, cond, Bool, true, false, List, [], ◌∷◌, map, refl, ap, sym, ◌∙◌, subst, append-nil, if◌then◌else◌}
use Rattle.std.specs.Prelude.{◌⊎◌}
use Rattle.served_places.specs.of_exchange_model.Exchange.{Exchange, plain}
use Rattle.run_work.specs.of_few_replies.Heard.{LastTold}
use Rattle.served_places.specs.of_serving_model.Passing.{ends_told, LastTells}
use Rattle.served_places.specs.of_serving_model.Tagged.{Meant, Tagged, Asked, untag, own_gift, is_own, no_reply, last_gifts, answer_gifts, ideal, tagged}
use Rattle.served_rings.proofs.Ends.{ends_mapped}

module _ {M : Type 0} (Q : Type 0) (e : M → Bool) where
  -- the replies with the last one marked
  abbrev marked : List M → List (Tagged M Q)
  marked ms = plain (λ (t : Tagged M Q). is_own t.meant) (last_gifts e ms)

  untag_marked : (ms : List M) → untag (marked ms) ≡ plain e ms
  untag_marked [] = refl
  untag_marked (m ∷ ms) = go (e m) (untag_marked ms)
    where
      go : (b : Bool) → untag (marked ms) ≡ plain e ms → untag (plain (λ (t : Tagged M Q). is_own t.meant) (record { mail = m; meant = if b then Meant.Own else Meant.Reply (no_reply e ms) } ∷ last_gifts e ms)) ≡ cond (not b) (m ∷ plain e ms) (plain e ms)
      go true rest = rest
      go false rest = ap (λ l. m ∷ l) rest

  none_plain : (ms : List M) → no_reply e ms ≡ true → plain e ms ≡ []
  none_plain [] is = refl
  none_plain (m ∷ ms) is = go (e m) is (none_plain ms)
    where
      go : (b : Bool) → (if b then no_reply e ms else false) ≡ true → (no_reply e ms ≡ true → plain e ms ≡ []) → cond (not b) (m ∷ plain e ms) (plain e ms) ≡ []
      go true is rest = rest is
      go false is rest = absurd (cc)

  -- what replies to nothing is no reply
  none_own : (ms : List M) → plain (λ (t : Tagged M Q). is_own t.meant) (map (λ g. own_gift g) ms) ≡ []
  none_own [] = refl
  none_own (m ∷ ms) = none_own ms

  -- the replies that are heard, with the one that is made up where there is none
  answer_told : (more : M → Bool) (m : M) (ms : List M) → more m ≡ false → (plain e ms ≡ []) ⊎ (ends_told more (plain e ms) ≡ true) →
      let gifts = plain (λ (t : Tagged M Q). is_own t.meant) (answer_gifts e m ms) in (gifts ≡ []) ⊎ (ends_told (λ t. more t.mail) gifts ≡ true)
  answer_told more m ms ends tells = go (no_reply e ms) refl
    where
      go : (b : Bool) → no_reply e ms ≡ b →
          let gifts = plain (λ (t : Tagged M Q). is_own t.meant) (if b then record { mail = m; meant = Meant.Reply true } ∷ last_gifts e ms else last_gifts e ms) in (gifts ≡ []) ⊎ (ends_told (λ t. more t.mail) gifts ≡ true)
      go true is = inr (sym (ends_mapped (λ (t : Tagged M Q). t.mail) more (record { mail = m; meant = Meant.Reply true } ∷ marked ms)) ∙ ap (λ l. ends_told more (m ∷ l)) (untag_marked ms ∙ none_plain ms is) ∙ ap not ends)
      go false is = elim tells [
        | inl none ↦ inl (none_marked (marked ms) (untag_marked ms ∙ none))
        | inr told ↦ inr (sym (ends_mapped (λ (t : Tagged M Q). t.mail) more (marked ms)) ∙ ap (ends_told more) (untag_marked ms) ∙ told)
      ]
        where
          none_marked : (ts : List (Tagged M Q)) → untag ts ≡ [] → ts ≡ []
          none_marked [] e = refl
          none_marked (t ∷ ts) e = absurd (cc)

-- OF EACH MAIL that is passed on, where one that says itself that others follow isn't foreseen to be answered
pub passed_told : {V M Q R : Type 0} (x : Exchange V V M Q R) (more : M → Bool) → LastTells x more → (m : M) (answers : Bool) → (answers ≡ true → more m ≡ false) → LastTold (tagged x) (λ t. more t.mail) (Asked.Passed m answers)
passed_told {Q = Q} x more tells m false calm w ready = inl (ap (plain (λ (t : Tagged _ Q). is_own t.meant)) (append-nil (map (λ g. own_gift g) (x.serve (ideal x w) m).1)) ∙ none_own Q x.speech.emission (x.serve (ideal x w) m).1)
passed_told {Q = Q} x more tells m true calm w ready =
    let gives = (x.serve (ideal x w) m).1 in
    subst (λ l. let gifts = plain (λ (t : Tagged _ Q). is_own t.meant) l in (gifts ≡ []) ⊎ (ends_told (λ t. more t.mail) gifts ≡ true)) (sym (append-nil (answer_gifts x.speech.emission m gives)))
    (answer_told Q x.speech.emission more m gives (calm refl) (tells (ideal x w) m ready))
