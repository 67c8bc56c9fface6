-- WHAT FRAMES TELL TO BE HEARD without what is meant by their mails, and what is sent of itself among it.
use Rattle.std.proofs.Common.{◌≡◌, ℕ, Bool, true, false, cond, List, [], ◌∷◌, ◌++◌, map, refl, ap, ap₂, sym, ◌∙◌}
use Rattle.std.proofs.lemmas.List.{map-append}
use Rattle.served_places.specs.of_exchange_model.Exchange.{emitted}
use Rattle.served_places.proofs.of_few_replies.Naturals.{each_of}
use Rattle.run_work.specs.of_few_replies.Client.{ByContents}
use Rattle.run_work.specs.of_few_replies.Erased.{all_news_as, frame_as, news_as}
use Rattle.served_places.specs.of_segment_model.Record.{Frame, News, heard, joined, mails_heard, news_each, nothing_kept}
use Rattle.served_places.specs.of_serving_model.Tagged.{Tagged, is_own, untag}

module _ {N M : Type 0} (f : N → M) where
  joined_as : (nss : List (List (News N))) → joined (map (λ ns. all_news_as f ns) nss) ≡ all_news_as f (joined nss)
  joined_as [] = refl
  joined_as (ns ∷ nss) = ap (λ l. all_news_as f ns ++ l) (joined_as nss) ∙ sym (map-append (λ n. news_as f n) ns (joined nss))

  mails_as : (ns : List (News N)) → mails_heard (all_news_as f ns) ≡ map f (mails_heard ns)
  mails_as [] = refl
  mails_as (News.Told m ∷ ns) = mails_as ns
  mails_as (News.Written ∷ ns) = mails_as ns
  mails_as (News.Heard m ∷ ns) = ap (λ l. f m ∷ l) (mails_as ns)
  mails_as (News.NothingRead ∷ ns) = mails_as ns
  mails_as (News.BoxFull full ∷ ns) = mails_as ns
  mails_as (News.Status state refused ∷ ns) = mails_as ns

  pub heard_as : (station : ℕ) (ks : List (Frame N)) → heard station (map (λ k. frame_as f k) ks) ≡ map f (heard station ks)
  heard_as station ks =
      ap (λ nss. mails_heard (joined nss)) (sym (each_of f station nothing_kept ks)) ∙ ap mails_heard (joined_as (news_each station nothing_kept ks)) ∙ mails_as (joined (news_each station nothing_kept ks))

-- the emissions among them
pub emitted_untag : {M Q : Type 0} (e : M → Bool) (ts : List (Tagged M Q)) → ByContents e ts → untag (emitted (λ t. is_own t.meant) ts) ≡ emitted e (untag ts)
emitted_untag e [] c = refl
emitted_untag {M = M} e (t ∷ ts) c = go (is_own t.meant) ∙ ap₂ (λ (b : Bool) (l : List M). cond b (t.mail ∷ l) l) c.0 (emitted_untag e ts c.1)
  where
    go : (b : Bool) → untag (cond b (t ∷ emitted (λ k. is_own k.meant) ts) (emitted (λ k. is_own k.meant) ts)) ≡ cond b (t.mail ∷ untag (emitted (λ k. is_own k.meant) ts)) (untag (emitted (λ k. is_own k.meant) ts))
    go true = refl
    go false = refl
