-- WITHOUT THE PACKETS what came into hand are the first services of the script.
use Rattle.std.proofs.Common.{◌≡◌, ℕ, suc, ◌+◌, Bool, true, false, cond, Option, Some, None, List, [], ◌∷◌, ◌++◌, length, take, filter, refl, ap, sym, ◌∙◌, subst, arith, append-nil}
use Rattle.std.specs.Prelude.{◌%◌, not, option_map, slice_get, nat_lt, if◌then◌else◌}
use Rattle.std.proofs.lemmas.List.Elements.{filter-append}
use Rattle.std.proofs.lemmas.Option.{slice_get_within, get_or_from_slice_get}
use Rattle.std.proofs.Math.Seq.{take-suc}
use Rattle.life_runs.specs.of_protocol_models.EoeClient as EoeClient
use Rattle.life_runs.specs.Led.{Comes}
use Rattle.life_runs.specs.of_master_hand.Spoken.{Asked, net}
use Rattle.life_runs.specs.of_master_hand.Talk.{asked_of}
use Rattle.life_runs.specs.of_segment_plan.declared.service.Service as Plan
use Rattle.life_runs.specs.of_state_model.Stated.{Service}
use Rattle.run_frames.specs.Came.{Came, handed_over, AreThose, is_packet, AreFirst}

-- no script has a packet
abbrev packet_in : Option Asked → Bool
packet_in None = false
packet_in (Some q) = is_packet (Service.Mails q)

none_set : (b : Bool) (block : List ℕ) → packet_in (if b then None else Some (net (EoeClient.set_ip block))) ≡ false
none_set true block = refl
none_set false block = refl

none_in : (room : ℕ) (s : Plan.Service) → packet_in (asked_of room s) ≡ false
none_in room (Plan.Service.Sdo service) = refl
none_in room (Plan.Service.ReadFile name pass) = refl
none_in room (Plan.Service.WriteFile name pass bytes) = refl
none_in room (Plan.Service.ReadIdn drive idn elements) = refl
none_in room (Plan.Service.WriteIdn drive idn elements bytes) = refl
none_in room (Plan.Service.SetIp block) = none_set (nat_lt room (length block + 10)) block
none_in room Plan.Service.GetIp = refl
none_in room (Plan.Service.State target) = refl
none_in room (Plan.Service.Forward packet) = refl

not_packet : (room : ℕ) (s : Plan.Service) (q : Asked) → asked_of room s ≡ Some q → is_packet (Service.Mails q) ≡ false
not_packet room s q e = ap packet_in (sym e) ∙ none_in room s

-- what is asked for comes into hand so
over : (room : ℕ) (s : Plan.Service) (q : Asked) → asked_of room s ≡ Some q → handed_over room s ≡ Some (Service.Mails q)
over room (Plan.Service.Sdo service) q e = ap (option_map (λ (q : Asked). Service.Mails q)) e
over room (Plan.Service.ReadFile name pass) q e = ap (option_map (λ (q : Asked). Service.Mails q)) e
over room (Plan.Service.WriteFile name pass bytes) q e = ap (option_map (λ (q : Asked). Service.Mails q)) e
over room (Plan.Service.ReadIdn drive idn elements) q e = ap (option_map (λ (q : Asked). Service.Mails q)) e
over room (Plan.Service.WriteIdn drive idn elements bytes) q e = ap (option_map (λ (q : Asked). Service.Mails q)) e
over room (Plan.Service.SetIp block) q e = ap (option_map (λ (q : Asked). Service.Mails q)) e
over room Plan.Service.GetIp q e = ap (option_map (λ (q : Asked). Service.Mails q)) e
over room (Plan.Service.State target) q e = absurd (let bad : None ≡ Some q = e in cc)
over room (Plan.Service.Forward packet) q e = absurd (let bad : None ≡ Some q = e in cc)

-- one more
one_more : (room : ℕ) (ss : List Plan.Service) (qs : List (Service Asked)) (s : Plan.Service) (q : Service Asked) → AreThose room ss qs → handed_over room s ≡ Some q → AreThose room (ss ++ s ∷ []) (qs ++ q ∷ [])
one_more room [] [] s q x e = (e, tt)
one_more room [] (r ∷ qs) s q x e = absurd x
one_more room (t ∷ ss) [] s q x e = absurd x
one_more room (t ∷ ss) (r ∷ qs) s q x e = (x.0, one_more room ss qs s q x.1 e)

module _ (room : ℕ) (script : List Plan.Service) where
  abbrev others : List (Service Asked) → List (Service Asked)
  others qs = filter (λ q. not (is_packet q)) qs

  -- behind one of the script, and behind a packet
  kept : (qs : List (Service Asked)) (q : Service Asked) → is_packet q ≡ false → others (qs ++ q ∷ []) ≡ others qs ++ q ∷ []
  kept qs q e = filter-append (λ q. not (is_packet q)) qs (q ∷ []) ∙ ap (λ l. others qs ++ l) (alone (is_packet q) e)
    where
      alone : (b : Bool) → b ≡ false → cond (not b) (q ∷ []) [] ≡ q ∷ []
      alone true e = absurd (cc)
      alone false e = refl

  scripted : (n : ℕ) (qs : List (Service Asked)) (s : Plan.Service) (q : Service Asked) → slice_get script n ≡ Some s → handed_over room s ≡ Some q → is_packet q ≡ false → AreFirst room script n qs → AreFirst room script (suc n) (qs ++ q ∷ [])
  scripted n qs s q at over not_ x =
      let near = slice_get_within script n s at in
      let taken : take (suc n) script ≡ take n script ++ s ∷ [] = take-suc script n s near ∙ ap (λ d. take n script ++ d ∷ []) (get_or_from_slice_get script n s s at) in
      record {
        within = omega (arith, near);
        those = subst (λ (ss : List Plan.Service). AreThose room ss (others (qs ++ q ∷ []))) (sym taken)
            (subst (λ (rs : List (Service Asked)). AreThose room (take n script ++ s ∷ []) rs) (sym (kept qs q not_)) (one_more room (take n script) (others qs) s q x.those over));
      }

  pub firsts : (n : ℕ) (qs : List (Service Asked)) → Came room script n qs → AreFirst room script n qs
  firsts _ _ Came.none = record { within = omega arith; those = tt }
  firsts _ _ (Came.next n _ qs _ came (Comes.mails s q at asked)) = scripted n qs s (Service.Mails q) at (over room s q asked) (not_packet room s q asked) (firsts n qs came)
  firsts _ _ (Came.next n _ qs _ came (Comes.state target at)) = scripted n qs (Plan.Service.State target) (Service.State (target % 16)) at refl refl (firsts n qs came)
  firsts _ _ (Came.next n _ qs _ came (Comes.packet octets frame)) =
      let x = firsts n qs came in
      let same : others (qs ++ Service.Mails (net (EoeClient.packet octets frame)) ∷ []) ≡ others qs = filter-append (λ q. not (is_packet q)) qs (Service.Mails (net (EoeClient.packet octets frame)) ∷ []) ∙ append-nil (others qs) in
      record { within = x.within; those = subst (λ (rs : List (Service Asked)). AreThose room (take n script) rs) (sym same) x.those }
