-- The emergencies among accepted mails, part by part and slave by slave.
use Rattle.std.proofs.Common.{◌≡◌, ◌<◌, ◌≤◌, ℕ, zero, suc, Option, Some, List, [], ◌∷◌, ◌++◌, map, length, refl, ap, sym, ◌∙◌, subst, append_assoc, append-nil, arith}
use Rattle.std.specs.Prelude.{IfSome, slice_get, slice_set}
use Rattle.master_node.specs.of_frame_view.View.{Lens}
use Rattle.run_book.specs.Heard.{Accepted, AllNoted, accepted_with, brought_of, brought_by, emergencies_of, emergencies_with, heard_on, heard_to}
use Rattle.master_node.specs.of_life_runs.Led.{Exchanged, Turn}
use Rattle.slave_server.specs.of_link_mails.Body.{Body}
use Rattle.master_node.specs.of_master_hand.Brings.{as_list, emergency_in, emergencies_in}
use Rattle.master_node.specs.of_master_tour.Brings.{accepted_in}
use Rattle.run_book.specs.declared.book.Emergency.{Emergency}
use Rattle.slave_server.specs.of_segment_model.Slaves.{Datagram}
use Rattle.master_node.specs.of_segment_ring.declared.wire.Fate.TheVariants.{Lost}

-- OF PARTS
with_append : (frame : ℕ) (xs ys : List (List ℕ)) → emergencies_with frame (xs ++ ys) ≡ emergencies_with frame xs ++ emergencies_with frame ys
with_append frame [] ys = refl
with_append frame (x ∷ xs) ys = ap (λ (es : List Emergency). record { octets = x; frame = frame } ∷ es) (with_append frame xs ys)

emergencies_append : (hs gs : List Accepted) → emergencies_of (hs ++ gs) ≡ emergencies_of hs ++ emergencies_of gs
emergencies_append [] gs = refl
emergencies_append (h ∷ hs) gs =
    let own = emergencies_with h.frame (as_list (emergency_in h.mail)) in
    ap (λ es. own ++ es) (emergencies_append hs gs) ∙ sym (append_assoc own (emergencies_of hs) (emergencies_of gs))

-- OF THE MAILS OF ONE FRAME
of_mails : (frame : ℕ) (mails : List Body) → emergencies_of (accepted_with frame mails) ≡ emergencies_with frame (emergencies_in mails)
of_mails frame [] = refl
of_mails frame (mail ∷ mails) =
    ap (λ es. emergencies_with frame (as_list (emergency_in mail)) ++ es) (of_mails frame mails) ∙ sym (with_append frame (as_list (emergency_in mail)) (emergencies_in mails))

pub brings : (frame : ℕ) (back : List (Datagram Body)) (u : Turn) (found : Option (List ℕ)) → as_list found ≡ emergencies_in (accepted_in u.lived.spot u.lived.life back) → emergencies_of (brought_of frame back u) ≡ emergencies_with frame (as_list found)
brings frame back u found is = of_mails frame (accepted_in u.lived.spot u.lived.life back) ∙ ap (emergencies_with frame) (sym is)

-- ONE SLAVE MORE
module _ (more : Turn → List Accepted) where
  next_so : (k : ℕ) (hss : List (List Accepted)) (us : List Turn) (n m : List Emergency) → k < length us → slice_get (map emergencies_of (heard_to more k hss us)) k ≡ Some n → IfSome (slice_get us k) (λ u. m ≡ n ++ emergencies_of (more u)) →
      slice_set (map emergencies_of (heard_to more k hss us)) k m ≡ map emergencies_of (heard_to more (suc k) hss us)
  next_so k hss [] n m inside e h = absurd (omega (arith, inside))
  next_so zero [] (u ∷ us) n m inside e h = refl
  next_so (suc k) [] (u ∷ us) n m inside e h = refl
  next_so zero (hs ∷ hss) (u ∷ us) n m inside e h =
      let same : n ≡ emergencies_of hs = cc in
      ap (λ (es : List Emergency). es ∷ map emergencies_of hss) (h ∙ ap (λ es. es ++ emergencies_of (more u)) same ∙ sym (emergencies_append hs (more u)))
  next_so (suc k) (hs ∷ hss) (u ∷ us) n m inside e h = ap (λ ess. emergencies_of (hs ++ more u) ∷ ess) (next_so k hss us n m (omega (arith, inside)) e h)

  pub next : (k : ℕ) (hss : List (List Accepted)) (us : List Turn) (notes : List (List Emergency)) (n m : List Emergency) → k < length us → slice_get notes k ≡ Some n → IfSome (slice_get us k) (λ u. m ≡ n ++ emergencies_of (more u)) →
      AllNoted (heard_to more k hss us) notes → AllNoted (heard_to more (suc k) hss us) (slice_set notes k m)
  next k hss us notes n m inside e h noted =
      ap (λ ess. slice_set ess k m) noted ∙ next_so k hss us n m inside (subst (λ (ess : List (List Emergency)). slice_get ess k ≡ Some n) noted e) h

  -- where the frame brought none
  none_so : (k : ℕ) (hss : List (List Accepted)) (us : List Turn) → k < length us → IfSome (slice_get us k) (λ u. emergencies_of (more u) ≡ []) → map emergencies_of (heard_to more k hss us) ≡ map emergencies_of (heard_to more (suc k) hss us)
  none_so k hss [] inside h = absurd (omega (arith, inside))
  none_so zero [] (u ∷ us) inside h = refl
  none_so (suc k) [] (u ∷ us) inside h = refl
  none_so zero (hs ∷ hss) (u ∷ us) inside h =
      ap (λ (es : List Emergency). es ∷ map emergencies_of hss) (sym (append-nil (emergencies_of hs)) ∙ ap (λ es. emergencies_of hs ++ es) (sym h) ∙ sym (emergencies_append hs (more u)))
  none_so (suc k) (hs ∷ hss) (u ∷ us) inside h = ap (λ ess. emergencies_of (hs ++ more u) ∷ ess) (none_so k hss us (omega (arith, inside)) h)

  pub none : (k : ℕ) (hss : List (List Accepted)) (us : List Turn) (notes : List (List Emergency)) → k < length us → IfSome (slice_get us k) (λ u. emergencies_of (more u) ≡ []) → AllNoted (heard_to more k hss us) notes → AllNoted (heard_to more (suc k) hss us) notes
  none k hss us notes inside h noted = noted ∙ none_so k hss us inside h

  -- ALL OF THEM
  all_so : (k : ℕ) (hss : List (List Accepted)) (us : List Turn) → length (heard_to more k hss us) ≤ k → heard_to more k hss us ≡ heard_on more hss us
  all_so zero [] us few = refl
  all_so zero (hs ∷ hss) us few = absurd (omega (arith, few))
  all_so (suc k) [] us few = refl
  all_so (suc k) (hs ∷ hss) [] few = refl
  all_so (suc k) (hs ∷ hss) (u ∷ us) few = ap (λ gss. (hs ++ more u) ∷ gss) (all_so k hss us (omega (arith, few)))

  many : (hss : List (List Accepted)) → length (map emergencies_of hss) ≡ length hss
  many [] = refl
  many (hs ∷ hss) = ap suc (many hss)

  pub passes : (k : ℕ) (hss : List (List Accepted)) (us : List Turn) (notes : List (List Emergency)) → length notes ≤ k → AllNoted (heard_to more k hss us) notes → AllNoted (heard_on more hss us) notes
  passes k hss us notes few noted =
      let long = ap length noted ∙ many (heard_to more k hss us) in
      noted ∙ ap (map emergencies_of) (all_so k hss us (omega (arith, few, long)))

-- A LOSS
module _ (lens : ℕ → Lens) (frame after : ℕ) (f : Exchanged) where
  same_so : (hss : List (List Accepted)) (us : List Turn) → map emergencies_of hss ≡ map emergencies_of (heard_on (λ u. brought_by lens frame f (Lost after) u) hss us)
  same_so [] us = refl
  same_so (hs ∷ hss) [] = refl
  same_so (hs ∷ hss) (u ∷ us) = (λ i. emergencies_of (sym (append-nil hs) i) ∷ same_so hss us i)

  pub loses : (hss : List (List Accepted)) (us : List Turn) (notes : List (List Emergency)) → AllNoted hss notes → AllNoted (heard_on (λ u. brought_by lens frame f (Lost after) u) hss us) notes
  loses hss us notes noted = noted ∙ same_so hss us
