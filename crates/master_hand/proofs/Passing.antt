-- A mail that is passed on, and its replies.
use Rattle.std.proofs.Common.{◌≡◌, ℕ, ◌+◌, List, [], ◌∷◌, Bool, true, false, Option, Some, None, refl, sym, ap, ◌∙◌, subst, length}
use Rattle.std.specs.Prelude.{is_some, Ok, not, ◌≤◌, ◌↔◌, if◌then◌else◌}
use Rattle.std.specs.Bool.{OnTrue, OnFalse}
use Rattle.eoe_client.specs.of_mailbox_mail.declared.outcome.Took.{Took}
use Rattle.master_side.specs.of_link_mails.Body.{Body}
use Rattle.serving_model.specs.Passing.{ends_told}
use Rattle.master_side.specs.of_master_duty.Reply.{Reply}
use Rattle.master_hand.specs.Spoken.{passed, passed_ends, is_followed}
use Rattle.master_hand.specs.Passed.{mail_of, passed_left, at_end, PassedTook}
use Rattle.master_hand.specs.Talk.{Talking, IsSent, ClientTook, Starts}
use Rattle.master_hand.specs.declared.clients.Which.{Which}
use Rattle.master_hand.specs.declared.passed.Content.{Content}
use Rattle.master_hand.specs.declared.passed.PassedMail.{PassedMail}

more_ends : (b : Body) (hs : List Body) → is_followed b ≡ true → passed_ends hs ≡ passed_ends (b ∷ hs)
more_ends b [] e = ap (λ (z : Bool). if not z then Some None else None) (sym e)
more_ends b (h ∷ hs) e = ap (λ (z : Bool). if (if z then ends_told is_followed (h ∷ hs) else false) then Some None else None) (sym e)

done_ends : (b : Body) (hs : List Body) → is_followed b ≡ false → at_end hs ≡ passed_ends (b ∷ hs)
done_ends b [] e = ap (λ (z : Bool). if not z then Some None else None) (sym e)
done_ends b (h ∷ hs) e = ap (λ (z : Bool). if (if z then ends_told is_followed (h ∷ hs) else false) then Some None else None) (sym e)

-- by whether the last reply came
abbrev pub by_over : Bool → List Body → Option Reply
by_over over hs = if over then at_end hs else passed_ends hs

pub more_took : (p : PassedMail) (b : Body) → p.over ≡ false → is_followed b ≡ true → PassedTook Took.More p b p
more_took p b o e = ((λ hs. ap (λ z. by_over z hs) o ∙ more_ends b hs e ∙ ap (λ z. by_over z (b ∷ hs)) (sym o)), ap (λ z. by_over z []) o)

pub done_took : (p q : PassedMail) (b : Body) → p.over ≡ false → q.over ≡ true → is_followed b ≡ false → PassedTook Took.Done p b q
done_took p q b o d e = ((λ hs. ap (λ z. by_over z hs) d ∙ done_ends b hs e ∙ ap (λ z. by_over z (b ∷ hs)) (sym o)), ap (λ z. is_some (by_over z [])) d)

abbrev left_by : Bool → Content → List Body
left_by unsent c = if unsent then Ok (mail_of c) ∷ [] else []

pub passed_took : (took : Took) (old : Talking) (p : PassedMail) (b : Body) → PassedTook took old.passed b p → (p.content ≡ old.passed.content) × (p.unsent ≡ old.passed.unsent) → ClientTook took Which.Passed old b (record old { passed = p })
passed_took Took.More old p b t k = (record { mails = λ e hs. (λ i. left_by (k.1 i) (k.0 i)); replies = t.0 }, t.1)
passed_took Took.Done old p b t k = (record { mails = λ e hs. (λ i. left_by (k.1 i) (k.0 i)); replies = t.0 }, t.1)
passed_took Took.Foreign old p b t k = (t.0, ap (λ (z : PassedMail). record old { passed = z }) t.1)

pub passed_sent : (b : Bool) (old : Talking) (p : PassedMail) (held : Content) → OnTrue b (passed_left old.passed ≡ Ok (mail_of held) ∷ passed_left p) → OnTrue b (held.body.items ≡ old.passed.content.body.items) → OnFalse b (p ≡ old.passed) → p.over ≡ old.passed.over →
    6 + length old.passed.content.body.items ≤ old.areas.out → IsSent b Which.Passed old held (record old { passed = p })
passed_sent true old p held s e n o f = record {
  mails = λ hs. s;
  replies = λ hs. ap (λ z. by_over z hs) o;
  fits = subst (λ (xs : List ℕ). 6 + length xs ≤ old.areas.out) (sym e) f;
  areas = refl;
}
passed_sent false old p held s e n o f = ap (λ (z : PassedMail). record old { passed = z }) n

pub passed_starts : (old : Talking) (p : PassedMail) (m : Content) → passed_left p ≡ Ok (mail_of m) ∷ [] → p.over ≡ false → Starts old.areas (passed (mail_of m)) Which.Passed (record old { passed = p })
passed_starts old p m l o = record { kind = refl; mails = λ hs. l; replies = λ hs. ap (λ z. by_over z hs) o }

pub passed_next : (p : PassedMail) → (p.unsent ≡ false) ↔ (passed_left p ≡ [])
passed_next p = by p.unsent
  where
    by : (b : Bool) → (b ≡ false) ↔ (left_by b p.content ≡ [])
    by true = ((λ e. absurd (cc)), (λ e. absurd (cc)))
    by false = ((λ e. refl), (λ e. refl))
