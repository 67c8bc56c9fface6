-- WHAT THE EVENTS OF A STEP LEAVE OF THE REQUESTS OF ONE SLAVE, and what they make owed by its datagrams: only its own events do.
use Rattle.std.proofs.Common.{◌≡◌, ℕ, List, [], ◌∷◌, ◌++◌, map, Bool, true, false, refl, sym, ap, ◌∙◌, subst, append_assoc}
use Rattle.std.specs.Prelude.{◌≢◌, cond, filter, find, Some, All, ⊤}
use Rattle.std.proofs.lemmas.List.Elements.{All-head, All-tail, All-filter}
use Rattle.gateway_core.specs.of_mailbox_mail.Mail.{error_of}
use Rattle.gateway_core.specs.of_mailbox_mail.declared.mail.Mail.{Mail}
use Rattle.run_record.specs.of_master_node.declared.event.Event.{Event}
use Rattle.run_record.specs.of_master_node.declared.event.Event.TheVariants as events
use Rattle.run_record.specs.of_master_node.declared.event.Origin.{Origin}
use Rattle.run_record.specs.of_master_node.declared.event.Origin.TheVariants as origins
use Rattle.gateway_run.specs.Account.{owing, cut_off, elsewhere, has_key, is_elsewhere, is_of, is_other, left_by, left_by_all, owed_by, owed_by_all, owed_to, replied, waits_at}
use Rattle.gateway_run.specs.Desk.{AreUnlike}
use Rattle.gateway_run.specs.Rooms.{done_by, given_by, grams_of, only, owed_for, requests_of}
use Rattle.gateway_run.specs.declared.desk.Request.{Request}
use Rattle.gateway_run.proofs.Accounts.{begun_keeps, unlike_begun, unlike_filter}
use Rattle.gateway_run.proofs.Rooms.{IsOwnKey, not_same, keys_here, begins_here, begins_other, done_other, filter_swap, found_here, gone_other, owed_append, owed_other, waits_here}

-- AN EVENT IS OF ONE SLAVE: it came into its hand, it was given up, or it is told under a key that no request of another slave has
abbrev pub IsOf : ℕ → List Request → Event → Type 0
IsOf j rs (events.Began slave origin) = slave ≡ j
IsOf j rs (events.GivenUp slave) = slave ≡ j
IsOf j rs (events.GatewayReply key mail) = IsOwnKey j key rs
IsOf j rs (events.GatewayDone key) = IsOwnKey j key rs
IsOf j rs (events.Answered slave kind) = ⊤
IsOf j rs (events.Emergency slave octets) = ⊤
IsOf j rs (events.Cleared slave own) = ⊤
IsOf j rs (events.Opened slave) = ⊤

-- each of these is
abbrev pub AreOf : ℕ → List Request → List Event → Type 0
AreOf j rs [] = ⊤
AreOf j rs (e ∷ es) = IsOf j rs e × AreOf j rs es

-- A FACT OF EACH REQUEST that doesn't look whether its mail came into hand stays whatever happens
module _ (P : Request → Type 0) (stays : (r : Request) → P r → P (record r { begun = true })) where
  came_keeps : (j : ℕ) (origin : Origin) (rs : List Request) → All P rs → All P (left_by (events.Began j origin) rs)
  came_keeps j (origins.Script n) rs all = all
  came_keeps j (origins.Forward n) rs all = all
  came_keeps j (origins.Gateway n) rs all = begun_keeps P stays j rs all

  pub event_keeps : (e : Event) (rs : List Request) → All P rs → All P (left_by e rs)
  event_keeps (events.Began slave origin) rs all = came_keeps slave origin rs all
  event_keeps (events.GivenUp slave) rs all = All-filter (is_elsewhere slave) P rs all
  event_keeps (events.GatewayReply key mail) rs all = all
  event_keeps (events.GatewayDone key) rs all = All-filter (is_other key) P rs all
  event_keeps (events.Answered slave kind) rs all = all
  event_keeps (events.Emergency slave octets) rs all = all
  event_keeps (events.Cleared slave own) rs all = all
  event_keeps (events.Opened slave) rs all = all

  pub events_keep : (es : List Event) (rs : List Request) → All P rs → All P (left_by_all es rs)
  events_keep [] rs all = all
  events_keep (e ∷ es) rs all = events_keep es (left_by e rs) (event_keeps e rs all)

-- so an event stays one of its slave behind others
own_stays : (j key : ℕ) (e : Event) (rs : List Request) → IsOwnKey j key rs → IsOwnKey j key (left_by e rs)
own_stays j key e rs own = event_keeps (λ (r : Request). r.slave ≢ j → r.key ≢ key) (λ r p. p) e rs own

is_of_stays : (j : ℕ) (e f : Event) (rs : List Request) → IsOf j rs e → IsOf j (left_by f rs) e
is_of_stays j (events.Began slave origin) f rs o = o
is_of_stays j (events.GivenUp slave) f rs o = o
is_of_stays j (events.GatewayReply key mail) f rs o = own_stays j key f rs o
is_of_stays j (events.GatewayDone key) f rs o = own_stays j key f rs o
is_of_stays j (events.Answered slave kind) f rs o = tt
is_of_stays j (events.Emergency slave octets) f rs o = tt
is_of_stays j (events.Cleared slave own) f rs o = tt
is_of_stays j (events.Opened slave) f rs o = tt

are_of_stays : (j : ℕ) (es : List Event) (f : Event) (rs : List Request) → AreOf j rs es → AreOf j (left_by f rs) es
are_of_stays j [] f rs o = tt
are_of_stays j (e ∷ es) f rs o = (is_of_stays j e f rs o.0, are_of_stays j es f rs o.1)

pub are_of_on : (j : ℕ) (es fs : List Event) (rs : List Request) → AreOf j rs es → AreOf j (left_by_all fs rs) es
are_of_on j es [] rs o = o
are_of_on j es (f ∷ fs) rs o = are_of_on j es fs (left_by f rs) (are_of_stays j es f rs o)

-- OF THE SLAVE ITSELF
came_here : (j : ℕ) (origin : Origin) (rs : List Request) → requests_of j (left_by (events.Began j origin) rs) ≡ left_by (events.Began j origin) (requests_of j rs)
came_here j (origins.Script n) rs = refl
came_here j (origins.Forward n) rs = refl
came_here j (origins.Gateway n) rs = begins_here j rs

event_here : (j : ℕ) (e : Event) (rs : List Request) → IsOf j rs e → requests_of j (left_by e rs) ≡ left_by e (requests_of j rs)
event_here j (events.Began slave origin) rs o = subst (λ k. requests_of j (left_by (events.Began k origin) rs) ≡ left_by (events.Began k origin) (requests_of j rs)) (sym o) (came_here j origin rs)
event_here j (events.GivenUp slave) rs o = filter_swap (is_of j) (is_elsewhere slave) rs
event_here j (events.GatewayReply key mail) rs o = refl
event_here j (events.GatewayDone key) rs o = filter_swap (is_of j) (is_other key) rs
event_here j (events.Answered slave kind) rs o = refl
event_here j (events.Emergency slave octets) rs o = refl
event_here j (events.Cleared slave own) rs o = refl
event_here j (events.Opened slave) rs o = refl

pub events_here : (j : ℕ) (es : List Event) (rs : List Request) → AreOf j rs es → requests_of j (left_by_all es rs) ≡ left_by_all es (requests_of j rs)
events_here j [] rs o = refl
events_here j (e ∷ es) rs o = events_here j es (left_by e rs) (are_of_stays j es e rs o.1) ∙ ap (left_by_all es) (event_here j e rs o.0)

-- what they make owed is owed by its requests
owed_here : (j : ℕ) (e : Event) (rs : List Request) → IsOf j rs e → owed_by e rs ≡ owed_by e (requests_of j rs)
owed_here j (events.Began slave origin) rs o = refl
owed_here j (events.GivenUp slave) rs o = subst (λ k. cut_off k rs ≡ cut_off k (requests_of j rs)) (sym o) (ap (map (owing (error_of 5))) (sym (waits_here j rs)))
owed_here j (events.GatewayReply key mail) rs o = ap (owed_to mail) (found_here j key rs o)
owed_here j (events.GatewayDone key) rs o = refl
owed_here j (events.Answered slave kind) rs o = refl
owed_here j (events.Emergency slave octets) rs o = refl
owed_here j (events.Cleared slave own) rs o = refl
owed_here j (events.Opened slave) rs o = refl

done_here : (j : ℕ) (e : Event) (rs : List Request) → IsOf j rs e → done_by e rs ≡ done_by e (requests_of j rs)
done_here j (events.Began slave origin) rs o = refl
done_here j (events.GivenUp slave) rs o = refl
done_here j (events.GatewayReply key mail) rs o = refl
done_here j (events.GatewayDone key) rs o = ap grams_of (keys_here j key rs o)
done_here j (events.Answered slave kind) rs o = refl
done_here j (events.Emergency slave octets) rs o = refl
done_here j (events.Cleared slave own) rs o = refl
done_here j (events.Opened slave) rs o = refl

-- so it is with all that they give
abbrev pub IsHere : {X : Type 0} → (Event → List Request → List X) → Type 0
IsHere gives = (j : ℕ) (e : Event) (rs : List Request) → IsOf j rs e → gives e rs ≡ gives e (requests_of j rs)

pub given_here : {X : Type 0} (gives : Event → List Request → List X) → IsHere gives → (j : ℕ) (es : List Event) (rs : List Request) → AreOf j rs es → given_by gives es rs ≡ given_by gives es (requests_of j rs)
given_here gives here j [] rs o = refl
given_here gives here j (e ∷ es) rs o =
    (λ k. here j e rs o.0 k ++ given_here gives here j es (left_by e rs) (are_of_stays j es e rs o.1) k)
    ∙ ap (λ qs. gives e (requests_of j rs) ++ given_by gives es qs) (event_here j e rs o.0)

pub owed_is_here : IsHere owed_by
owed_is_here = owed_here

pub done_is_here : IsHere done_by
done_is_here = done_here

-- OF ANOTHER SLAVE nothing changes
module _ (i j : ℕ) (apart : i ≢ j) where
  came_other : (origin : Origin) (rs : List Request) → requests_of i (left_by (events.Began j origin) rs) ≡ requests_of i rs
  came_other (origins.Script n) rs = refl
  came_other (origins.Forward n) rs = refl
  came_other (origins.Gateway n) rs = begins_other i j apart rs

  event_other : (e : Event) (rs : List Request) → IsOf j rs e → requests_of i (left_by e rs) ≡ requests_of i rs
  event_other (events.Began slave origin) rs o = subst (λ k. requests_of i (left_by (events.Began k origin) rs) ≡ requests_of i rs) (sym o) (came_other origin rs)
  event_other (events.GivenUp slave) rs o = subst (λ k. requests_of i (elsewhere k rs) ≡ requests_of i rs) (sym o) (gone_other i j apart rs)
  event_other (events.GatewayReply key mail) rs o = refl
  event_other (events.GatewayDone key) rs o = done_other i j key rs apart o
  event_other (events.Answered slave kind) rs o = refl
  event_other (events.Emergency slave octets) rs o = refl
  event_other (events.Cleared slave own) rs o = refl
  event_other (events.Opened slave) rs o = refl

  pub events_other : (es : List Event) (rs : List Request) → AreOf j rs es → requests_of i (left_by_all es rs) ≡ requests_of i rs
  events_other [] rs o = refl
  events_other (e ∷ es) rs o = events_other es (left_by e rs) (are_of_stays j es e rs o.1) ∙ event_other e rs o.0

-- NOTHING IS OWED BY A DATAGRAM of which there is no request
module _ (n : ℕ) where
  abbrev pub IsNone : List Request → Type 0
  IsNone rs = All (λ (r : Request). r.gram ≢ n) rs

  pub cut_none : (qs : List Request) → IsNone qs → owed_for n (map (owing (error_of 5)) qs) ≡ []
  cut_none [] off = refl
  cut_none (q ∷ qs) off =
      owed_append n (owing (error_of 5) q ∷ []) (map (owing (error_of 5)) qs)
      ∙ (λ k. owed_other n (error_of 5) q (All-head (λ (q : Request). q.gram ≢ n) q qs off) k ++ cut_none qs (All-tail (λ (q : Request). q.gram ≢ n) q qs off) k)

  found_none : (mail : Mail) (key : ℕ) (rs : List Request) → IsNone rs → owed_for n (replied mail key rs) ≡ []
  found_none mail key [] off = refl
  found_none mail key (r ∷ rs) off = go (has_key key r) (found_none mail key rs (All-tail (λ (q : Request). q.gram ≢ n) r rs off))
    where
      go : (b : Bool) → owed_for n (replied mail key rs) ≡ [] → owed_for n (owed_to mail (cond b (Some r) (find (has_key key) rs))) ≡ []
      go true later = owed_other n mail r (All-head (λ (q : Request). q.gram ≢ n) r rs off)
      go false later = later

  event_none : (e : Event) (rs : List Request) → IsNone rs → owed_for n (owed_by e rs) ≡ []
  event_none (events.Began slave origin) rs off = refl
  event_none (events.GivenUp slave) rs off = cut_none (filter (waits_at slave) rs) (All-filter (waits_at slave) (λ (r : Request). r.gram ≢ n) rs off)
  event_none (events.GatewayReply key mail) rs off = found_none mail key rs off
  event_none (events.GatewayDone key) rs off = refl
  event_none (events.Answered slave kind) rs off = refl
  event_none (events.Emergency slave octets) rs off = refl
  event_none (events.Cleared slave own) rs off = refl
  event_none (events.Opened slave) rs off = refl

  pub owed_none : (e : Event) (rs : List Request) → IsNone rs → owed_for n (owed_by e rs) ≡ []
  owed_none e rs off = event_none e rs off

  -- nor does it end a row of it
  kept_none : (key : ℕ) (rs : List Request) → IsNone rs → only n (grams_of (filter (has_key key) rs)) ≡ []
  kept_none key rs off = grams_none (filter (has_key key) rs) (All-filter (has_key key) (λ (r : Request). r.gram ≢ n) rs off)
    where
      grams_none : (qs : List Request) → IsNone qs → only n (grams_of qs) ≡ []
      grams_none [] off = refl
      grams_none (q ∷ qs) off = ap (λ (z : Bool). cond z (q.gram ∷ only n (grams_of qs)) (only n (grams_of qs))) (not_same n q.gram (λ s. All-head (λ (r : Request). r.gram ≢ n) q qs off (sym s))) ∙ grams_none qs (All-tail (λ (r : Request). r.gram ≢ n) q qs off)

  pub done_none : (e : Event) (rs : List Request) → IsNone rs → only n (done_by e rs) ≡ []
  done_none (events.Began slave origin) rs off = refl
  done_none (events.GivenUp slave) rs off = refl
  done_none (events.GatewayReply key mail) rs off = refl
  done_none (events.GatewayDone key) rs off = kept_none key rs off
  done_none (events.Answered slave kind) rs off = refl
  done_none (events.Emergency slave octets) rs off = refl
  done_none (events.Cleared slave own) rs off = refl
  done_none (events.Opened slave) rs off = refl

  -- of all that events give, what is of one datagram
  module _ {X Y : Type 0} (gives : Event → List Request → List X) (part : List X → List Y) (parts : (xs ys : List X) → part (xs ++ ys) ≡ part xs ++ part ys) (empty : part [] ≡ []) (none : (e : Event) (rs : List Request) → IsNone rs → part (gives e rs) ≡ []) where
    pub given_none : (es : List Event) (rs : List Request) → IsNone rs → part (given_by gives es rs) ≡ []
    given_none [] rs off = empty
    given_none (e ∷ es) rs off =
        parts (gives e rs) (given_by gives es (left_by e rs))
        ∙ (λ k. none e rs off k ++ given_none es (left_by e rs) (event_keeps (λ (r : Request). r.gram ≢ n) (λ r p. p) e rs off) k)

-- EVENTS ONE BEHIND THE OTHER
pub left_append : (es fs : List Event) (rs : List Request) → left_by_all (es ++ fs) rs ≡ left_by_all fs (left_by_all es rs)
left_append [] fs rs = refl
left_append (e ∷ es) fs rs = left_append es fs (left_by e rs)

pub given_both : {X : Type 0} (gives : Event → List Request → List X) (es fs : List Event) (rs : List Request) → given_by gives (es ++ fs) rs ≡ given_by gives es rs ++ given_by gives fs (left_by_all es rs)
given_both gives [] fs rs = refl
given_both gives (e ∷ es) fs rs = ap (λ os. gives e rs ++ os) (given_both gives es fs (left_by e rs)) ∙ sym (append_assoc (gives e rs) (given_by gives es (left_by e rs)) (given_by gives fs (left_by_all es (left_by e rs))))

-- what is owed is given so
pub owed_is : (es : List Event) (rs : List Request) → owed_by_all es rs ≡ given_by owed_by es rs
owed_is [] rs = refl
owed_is (e ∷ es) rs = ap (λ os. owed_by e rs ++ os) (owed_is es (left_by e rs))

pub owed_both : (es fs : List Event) (rs : List Request) → owed_by_all (es ++ fs) rs ≡ owed_by_all es rs ++ owed_by_all fs (left_by_all es rs)
owed_both es fs rs = owed_is (es ++ fs) rs ∙ given_both owed_by es fs rs ∙ sym (λ k. owed_is es rs k ++ owed_is fs (left_by_all es rs) k)

-- KEYS AND DATAGRAMS STAY APART
module _ (number : Request → ℕ) (stays : (r : Request) → number (record r { begun = true }) ≡ number r) where
  came_unlike : (j : ℕ) (origin : Origin) (rs : List Request) → AreUnlike number rs → AreUnlike number (left_by (events.Began j origin) rs)
  came_unlike j (origins.Script n) rs u = u
  came_unlike j (origins.Forward n) rs u = u
  came_unlike j (origins.Gateway n) rs u = unlike_begun number stays j rs u

  pub event_unlike : (e : Event) (rs : List Request) → AreUnlike number rs → AreUnlike number (left_by e rs)
  event_unlike (events.Began slave origin) rs u = came_unlike slave origin rs u
  event_unlike (events.GivenUp slave) rs u = unlike_filter number stays (is_elsewhere slave) rs u
  event_unlike (events.GatewayReply key mail) rs u = u
  event_unlike (events.GatewayDone key) rs u = unlike_filter number stays (is_other key) rs u
  event_unlike (events.Answered slave kind) rs u = u
  event_unlike (events.Emergency slave octets) rs u = u
  event_unlike (events.Cleared slave own) rs u = u
  event_unlike (events.Opened slave) rs u = u

  pub events_unlike : (es : List Event) (rs : List Request) → AreUnlike number rs → AreUnlike number (left_by_all es rs)
  events_unlike [] rs u = u
  events_unlike (e ∷ es) rs u = events_unlike es (left_by e rs) (event_unlike e rs u)
