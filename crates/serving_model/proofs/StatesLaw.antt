-- Its AL state is a part of the server behind whole rows.
use Rattle.std.proofs.Common.{◌≡◌, ℕ, suc, ◌+◌, ◌-◌, ◌==◌, ◌&&◌, nat_lt, length, Bool, true, false, Option, None, Some, List, [], ◌∷◌, ◌++◌, inl, inr, append-nil, refl, sym, ap, ap₂, ◌∙◌, arith, if◌then◌else◌, eqb-true}
use Rattle.std.proofs.lemmas.List.{length-map}
use Rattle.state_model.specs.of_exchange_model.Exchange.{Exchange, AnswersLast, given, outnumbers, plain}
use Rattle.state_model.specs.Stated.{Stated, IsStated}
use Rattle.serving_model.specs.Tagged.{IsServed, Meant, Tagged, Asked, more_of, told, untag, answer_gifts, ends_marked, Rowed, ideal, ideal_in, real, rows_done, serve_tagged, tagged}
use Rattle.serving_model.specs.TaggedStates.{told_state, tagged_states, IsStatedServed}
use Rattle.serving_model.proofs.TaggedLaw.{told-plain, CutTold, cut_told, same-is, cut_alone, marked-answer}

module _ {V M Q R C : Type 0} (x : Exchange V V M Q R) (core : V → C) (law : IsServed x core) (s : Stated V V Q) (owes : IsStatedServed x s) where
  of_base : (base now : V) (hand : Option Q) → s.state (ideal_in x base now hand) ≡ s.state base
  of_base base now None = refl
  of_base base now (Some q) = go (x.handled now == x.handled base)
    where
      go : (b : Bool) → s.state (if b then base else x.exec base q) ≡ s.state base
      go true = refl
      go false = owes.keeps base q

  -- telling a state, where it stands and where it doesn't
  tells : (state : ℕ) (w : Rowed V M Q) (P : Rowed V M Q → Type 0) → (s.state (ideal x w) ≡ state → P w) → P (record { base = s.tell state (ideal x w); hand = None; part = []; count = rows_done x w }) → P (told_state x s state w)
  tells state w P stands other = go (s.state (ideal x w) == state) refl
    where
      go : (b : Bool) → (s.state (ideal x w) == state) ≡ b → P (if b then w else record { base = s.tell state (ideal x w); hand = None; part = []; count = rows_done x w })
      go true is = stands (eqb-true (s.state (ideal x w)) state is)
      go false is = other

  stays_of : (w : Rowed V M Q) (m : M) (meant : Meant Q) → s.state (ideal x (serve_tagged x w m meant).0) ≡ s.state (ideal x w)
  stays_of w m (Meant.First q) = of_base (ideal x w) (x.serve (ideal x w) m).0 (Some q)
  stays_of w m Meant.More = of_base w.base _ w.hand ∙ sym (of_base w.base (real x w) w.hand)
  stays_of w m (Meant.Alone answers) = owes.stays (ideal x w) m
  stays_of w m (Meant.Reply marked) = refl
  stays_of w m Meant.Own = refl

  keeps_of : (v : V) (q : Asked M Q) → s.state ((tagged x).exec v q) ≡ s.state v
  keeps_of v (Asked.Script q) = owes.keeps v q
  keeps_of v (Asked.Passed m answers) = owes.stays v m

  last_of : AnswersLast (tagged x) (tagged_states x s).acknowledged
  last_of w (Asked.Script q) ready valid nay sure p r e same = go p r e same (cut_told q (x.full (ideal x w) q) p r e)
    where
      told_length : (ms : List M) → length (told q ms) ≡ length ms
      told_length [] = refl
      told_length (m ∷ ms) = ap suc (length-map ms (λ k. more_of k))

      unheard : outnumbers (x.full (ideal x w) q) (plain x.speech.emission (given x.serve (ideal x w) (x.full (ideal x w) q)))
          ≡ outnumbers (told q (x.full (ideal x w) q)) (plain (tagged x).speech.emission (given (tagged x).serve w (told q (x.full (ideal x w) q))))
      unheard = ap₂ nat_lt (ap length (sym (told-plain x core law w q (x.full (ideal x w) q))) ∙ length-map _ (λ t. t.mail)) (sym (told_length (x.full (ideal x w) q)))

      rest : (ms : List M) (r : List (Tagged M Q)) (more : List M) → told q (x.full (ideal x w) q) ≡ told q ms ++ r → x.full (ideal x w) q ≡ ms ++ more → more ≡ [] → r ≡ []
      rest ms r more e is none = nothing (told q ms) r (sym (ap (told q) (is ∙ (ap (λ l. ms ++ l) none ∙ append_nil ms))) ∙ e)
        where
          append_nil : (l : List M) → l ++ [] ≡ l
          append_nil [] = refl
          append_nil (y ∷ l) = ap (λ k. y ∷ k) (append_nil l)

          nothing : (l k : List (Tagged M Q)) → l ≡ l ++ k → k ≡ []
          nothing [] k e = sym e
          nothing (y ∷ l) k e = nothing l k (let tail : l ≡ l ++ k = cc in tail)

      go : (p r : List (Tagged M Q)) → told q (x.full (ideal x w) q) ≡ p ++ r → plain (tagged x).speech.emission (given (tagged x).serve w p) ≡ plain (tagged x).speech.emission (given (tagged x).serve w (told q (x.full (ideal x w) q))) → CutTold q (x.full (ideal x w) q) p → r ≡ []
      go p r e same (CutTold.nothing is) =
          absurd (let untold : [] ≡ plain x.speech.emission (given x.serve (ideal x w) (x.full (ideal x w) q)) = ap (λ l. untag (plain (tagged x).speech.emission (given (tagged x).serve w l))) (sym is) ∙ ap untag same ∙ told-plain x core law w q (x.full (ideal x w) q) in
          let reply = ap (x.speech.ends q) untold ∙ law.replied (ideal x w) q ready valid nay in let nothing = law.none q in cc)
      go p r e same (CutTold.some m front more is told_is) =
          rest (m ∷ front) r more (e ∙ ap (λ l. l ++ r) told_is) is
          (owes.last (ideal x w) q ready valid nay (ap (λ b. s.acknowledged q && b) unheard ∙ sure) (m ∷ front) more is
          (sym (told-plain x core law w q (m ∷ front)) ∙ ap (λ l. untag (plain (tagged x).speech.emission (given (tagged x).serve w l))) (sym told_is) ∙ ap untag same ∙ told-plain x core law w q (x.full (ideal x w) q)))
  last_of w (Asked.Passed m false) ready valid nay sure p r e same = absurd (cc)
  last_of w (Asked.Passed m true) ready valid nay sure p r e same = elim (cut_alone x core law _ p r e) [
    | inl is ↦ absurd (let marked = marked-answer Q x.speech.emission m (x.serve (ideal x w) m).1 in
        let empty_is : ends_marked (plain (tagged x).speech.emission (answer_gifts x.speech.emission m (x.serve (ideal x w) m).1)) ≡ false =
        ap (λ l. ends_marked (plain (tagged x).speech.emission l)) (sym (append-nil (answer_gifts x.speech.emission m (x.serve (ideal x w) m).1))) ∙ ap ends_marked (sym same) ∙ ap (λ l. ends_marked (plain (tagged x).speech.emission (given (tagged x).serve w l))) is in cc)
    | inr is ↦ behind_one (record { mail = m; meant = Meant.Alone true }) r (e ∙ ap (λ l. l ++ r) is)
  ]
    where
      behind_one : (t : Tagged M Q) (r : List (Tagged M Q)) → t ∷ [] ≡ t ∷ r → r ≡ []
      behind_one t [] e = refl
      behind_one t (u ∷ r) e = absurd (cc)

  pub tagged_stated : IsStated (tagged x) (tagged_states x s)
  tagged_stated = record {
    ready = λ state w. tells state w (λ u. x.ready (ideal x u) ≡ x.ready (ideal x w)) (λ e. refl) (owes.ready state (ideal x w));
    handled = λ state w. tells state w (λ u. rows_done x u ≡ rows_done x w) (λ e. refl) (let is : rows_done x w + (x.handled (s.tell state (ideal x w)) - x.handled (s.tell state (ideal x w))) ≡ rows_done x w = omega arith in is);
    app = λ state w. tells state w (λ u. ideal x u ≡ s.tell state (ideal x w)) (λ e. sym (ap (λ k. s.tell k (ideal x w)) (sym e) ∙ owes.same (ideal x w))) refl;
    is = owes.is;
    same = λ w. ap (λ b. if b then w else record { base = s.tell (s.state (ideal x w)) (ideal x w); hand = None; part = []; count = rows_done x w }) (same-is (s.state (ideal x w)) (s.state (ideal x w)) refl);
    stays = λ w t. stays_of w t.mail t.meant;
    keeps = λ v q. keeps_of v q;
    last = last_of;
  }
