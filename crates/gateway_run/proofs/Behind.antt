-- BEHIND A FRAME what is told of a slave is what its desk owes: one slave's requests behind what is listed of it.
use Rattle.std.proofs.Common.{◌≡◌, ℕ, Bool, true, false, Some, List, [], ◌∷◌, ◌++◌, map, refl, sym, ap, ◌∙◌, subst, append-nil, eqb-true}
use Rattle.std.specs.Prelude.{◌≢◌, cond, find, filter, Ok, Err}
use Rattle.std.proofs.lemmas.List.Elements.{All-head, All-tail}
use Rattle.run_record.specs.of_life_runs.Served.{Serves}
use Rattle.run_record.specs.of_life_runs.Told.{Passed}
use Rattle.run_record.specs.of_master_node.Gateways.{done_told, replies_told}
use Rattle.run_record.specs.of_master_node.declared.event.Event.{Event}
use Rattle.run_record.specs.of_frame_view.Shares.{AllBoth}
use Rattle.run_record.specs.of_link_mails.Body.{Body}
use Rattle.run_record.specs.of_master_tour.Made.{is_in}
use Rattle.run_record.specs.of_segment_model.Ends.{Passing}
use Rattle.run_record.specs.of_run_book.declared.book.GramIn.{GramIn}
use Rattle.gateway_run.specs.Account.{IsFree, Owing, owing, has_key, left_by_all, others, owed_by_all, waits_at}
use Rattle.gateway_run.specs.Desk.{AreApart}
use Rattle.gateway_run.specs.Rooms.{begun_of, done_by, done_by_all, grams_of, has_begun, waiting_of}
use Rattle.gateway_run.specs.Replies.{IsDesk, IsFor, keyed_in, mails_told}
use Rattle.gateway_run.specs.declared.desk.Request.{Request}
use Rattle.gateway_run.proofs.Rooms.{not_same}
use Rattle.gateway_run.proofs.Views.{given_both, left_append, owed_both}
use Rattle.gateway_run.proofs.Desking.{begun_waits, done_here, found_kept, replies_here}

-- of a key that none has there is no request
none_kept : (key : ℕ) (qs : List Request) → IsFree key qs → filter (has_key key) qs ≡ []
none_kept key [] free = refl
none_kept key (q ∷ qs) free =
    ap (λ z. cond z (q ∷ filter (has_key key) qs) (filter (has_key key) qs)) (not_same q.key key (All-head (λ (r : Request). r.key ≢ key) q qs free)) ∙ none_kept key qs (All-tail (λ (r : Request). r.key ≢ key) q qs free)

-- WHAT IS TOLD OF THE MAIL IN HAND, where one is
module _ (gs : List GramIn) (slave : ℕ) (w v : Serves) (os more : List Owing) (came : List ℕ) (rs : List Request) (p : Passed) (new : List Body) where
  -- what it tells
  abbrev pub told_of : Bool → Bool → List Event
  told_of was goes = replies_told p.key new ++ done_told p.key was goes

  -- THE REQUEST IN HAND is that of the mail
  pub record InHand : Type 0 where
    pub request : Request
    pub is : begun_of slave rs ≡ request ∷ []
    pub for_it : IsFor gs request (record { key = p.key; mail = p.mail })

  pub in_hand : w.hand ≡ Some p → (x : Passing) → w.lead.lived.life.era.passing ≡ Some x → IsDesk gs os slave w came (waiting_of slave rs) (begun_of slave rs) → InHand
  in_hand h x e d = go (begun_of slave rs) refl (subst (AllBoth (IsFor gs) (begun_of slave rs)) (λ i. keyed_in (h i) (e i)) d.in_hand)
    where
      go : (bs : List Request) → begun_of slave rs ≡ bs → AllBoth (IsFor gs) bs (record { key = p.key; mail = p.mail } ∷ []) → InHand
      go [] s a = absurd a
      go (r ∷ []) s a = record { request = r; is = s; for_it = a.0 }
      go (r ∷ (q ∷ bs)) s a = absurd a.1

  module _ (apart : AreApart rs) (i : InHand) where
    found : find (has_key p.key) rs ≡ Some i.request
    found = subst (λ k. find (has_key k) rs ≡ Some i.request) (sym i.for_it.key) (found_kept (has_begun slave) rs i.request [] apart i.is)

    -- the replies are owed by it
    replied : (left_by_all (replies_told p.key new) rs ≡ rs) × (owed_by_all (replies_told p.key new) rs ≡ map (λ m. owing m i.request) (mails_told new))
    replied = subst (λ k. (left_by_all (replies_told k new) rs ≡ rs) × (owed_by_all (replies_told k new) rs ≡ map (λ m. owing m i.request) (mails_told new))) (sym i.for_it.key)
        (replies_here i.request new rs (subst (λ k. find (has_key k) rs ≡ Some i.request) i.for_it.key found))

    done_owes : (was goes : Bool) (qs : List Request) → owed_by_all (done_told p.key was goes) qs ≡ []
    done_owes true true qs = refl
    done_owes true false qs = refl
    done_owes false goes qs = refl

    pub owes : (was goes : Bool) → owed_by_all (told_of was goes) rs ≡ map (λ m. owing m i.request) (mails_told new)
    owes was goes = owed_both (replies_told p.key new) (done_told p.key was goes) rs ∙ (λ k. replied.1 k ++ done_owes was goes (left_by_all (replies_told p.key new) rs) k) ∙ append-nil (map (λ m. owing m i.request) (mails_told new))

    -- while it isn't over its request stays
    pub stays : left_by_all (told_of true true) rs ≡ rs
    stays = left_append (replies_told p.key new) [] rs ∙ replied.0

    -- where it is over, that is finished
    pub ends : left_by_all (told_of true false) rs ≡ others p.key rs
    ends = left_append (replies_told p.key new) (done_told p.key true false) rs ∙ ap (others p.key) replied.0

    pub finished : (waiting_of slave (others p.key rs) ≡ waiting_of slave rs) × (begun_of slave (others p.key rs) ≡ [])
    finished = subst (λ k. (waiting_of slave (others k rs) ≡ waiting_of slave rs) × (begun_of slave (others k rs) ≡ [])) (sym i.for_it.key) (done_here (has_begun slave) (waits_at slave) rs i.request (begun_waits slave) apart i.is)

    -- which rows that ends
    replies_end : (bs : List Body) (qs : List Request) → done_by_all (replies_told p.key bs) qs ≡ []
    replies_end [] qs = refl
    replies_end (Ok m ∷ bs) qs = replies_end bs qs
    replies_end (Err fault ∷ bs) qs = replies_end bs qs

    pub done_none : (n : ℕ) → is_in n (done_by_all (told_of true true) rs) ≡ false
    done_none n = ap (is_in n) (given_both done_by (replies_told p.key new) [] rs ∙ (λ k. replies_end new rs k ++ []))

    kept_key : (qs : List Request) → AreApart qs → find (has_key p.key) qs ≡ Some i.request → filter (has_key p.key) qs ≡ i.request ∷ []
    kept_key [] a e = absurd (cc)
    kept_key (q ∷ qs) a e = go (has_key p.key q) refl (λ f. kept_key qs a.1 f)
      where
        go : (z : Bool) → has_key p.key q ≡ z → (find (has_key p.key) qs ≡ Some i.request → filter (has_key p.key) qs ≡ i.request ∷ []) → filter (has_key p.key) (q ∷ qs) ≡ i.request ∷ []
        go true f on =
            let same : q ≡ i.request = (let all : Some q ≡ Some i.request = sym (ap (λ z. cond z (Some q) (find (has_key p.key) qs)) f) ∙ e in cc) in
            ap (λ z. cond z (q ∷ filter (has_key p.key) qs) (filter (has_key p.key) qs)) f
            ∙ (λ k. same k ∷ none_kept p.key qs (subst (λ n. IsFree n qs) (eqb-true q.key p.key f) a.0) k)
        go false f on = ap (λ z. cond z (q ∷ filter (has_key p.key) qs) (filter (has_key p.key) qs)) f ∙ on (sym (ap (λ z. cond z (Some q) (find (has_key p.key) qs)) f) ∙ e)

    pub done_one : done_by_all (told_of true false) rs ≡ i.request.gram ∷ []
    done_one =
        given_both done_by (replies_told p.key new) (done_told p.key true false) rs
        ∙ (λ k. replies_end new rs k ++ (grams_of (filter (has_key p.key) (replied.0 k)) ++ []))
        ∙ append-nil (grams_of (filter (has_key p.key) rs))
        ∙ ap grams_of (kept_key rs apart found)
