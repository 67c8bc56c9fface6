-- The link of an open slave as another sees its mails.
use Rattle.std.proofs.Common.{◌≡◌, ◌≢◌, ℕ, Bool, true, false, Option, Some, None, option_map, List, [], ◌∷◌, ◌++◌, map, refl, sym, ap, ◌∙◌, subst, if◌then◌else◌}
use Rattle.std.proofs.lemmas.List.{length-map, map-append}
use Rattle.idle_slaves.specs.Links.{HasLink}
use Rattle.idle_slaves.specs.of_link_model.Agree.{Follows, InAgree, Knows, OutAgree, SideAgree, last_body, last_met, last_met_of, unread}
use Rattle.idle_slaves.specs.of_link_model.Counters.{counter_of, next_counter}
use Rattle.idle_slaves.specs.of_link_model.Link.{Link}
use Rattle.idle_slaves.specs.of_link_model.Mails.{LinkMail, bodies, counter_in, is_repeat, news, seen}
use Rattle.idle_slaves.specs.of_link_model.Master.{InHalf, InState, OutHalf}
use Rattle.idle_slaves.specs.of_link_model.Slave.{InSide, OutSide}
use Rattle.served_rings.specs.of_few_replies.Erased.{halves_as, row_seen, side_seen}
use Rattle.idle_slaves.specs.of_segment_model.Seats.{Side}
use Rattle.idle_slaves.specs.of_segment_model.Slaves.{Serving, Slave}
use Rattle.served_rings.specs.of_serving_model.Erasing.{box_as, in_as, mail_as, node_as, out_as, slave_as}

module _ {N M : Type 0} (f : N → M) where
  -- ---- mails
  news_as : (last : ℕ) (b : Option (LinkMail N)) → news last (box_as f b) ≡ map f (news last b)
  news_as last None = refl
  news_as last (Some m) = go (is_repeat last m)
    where
      go : (c : Bool) → (if c then [] else f m.body ∷ []) ≡ map f (if c then [] else m.body ∷ [])
      go true = refl
      go false = refl

  seen_as : (last : ℕ) (b : Option (LinkMail N)) → seen last (box_as f b) ≡ seen last b
  seen_as last None = refl
  seen_as last (Some m) = refl

  bodies_as : (b : Option (LinkMail N)) → bodies (box_as f b) ≡ map f (bodies b)
  bodies_as None = refl
  bodies_as (Some m) = refl

  counter_as : (b : Option (LinkMail N)) → counter_in (box_as f b) ≡ counter_in b
  counter_as None = refl
  counter_as (Some m) = refl

  last_as : (xs : List N) → last_body (map f xs) ≡ option_map f (last_body xs)
  last_as [] = refl
  last_as (x ∷ []) = refl
  last_as (x ∷ (y ∷ xs)) = last_as (y ∷ xs)

  met_as : (box offered : Option (LinkMail N)) (again : Bool) (last_read : Option (LinkMail N)) → last_met (box_as f box) (box_as f offered) again (box_as f last_read) ≡ box_as f (last_met box offered again last_read)
  met_as (Some b) offered again last_read = refl
  met_as None None again last_read = refl
  met_as None (Some m) true last_read = refl
  met_as None (Some m) false last_read = refl

  unread_as : (again : Bool) (box : Option (LinkMail N)) → unread again (box_as f box) ≡ box_as f (unread again box)
  unread_as true box = refl
  unread_as false box = refl

  -- a mail that is seen was there
  record Was (b : Option (LinkMail N)) (m : LinkMail M) : Type 0 where
    mail : LinkMail N
    is : b ≡ Some mail
    same : m ≡ mail_as f mail

  was : (b : Option (LinkMail N)) (m : LinkMail M) → box_as f b ≡ Some m → Was b m
  was None m e = absurd (let no : None ≡ Some m = e in cc)
  was (Some n) m e = record { mail = n; is = refl; same = (let both : Some (mail_as f n) ≡ Some m = e in cc) }

  was_none : (b : Option (LinkMail N)) → box_as f b ≡ None → b ≡ None
  was_none None e = refl
  was_none (Some n) e = absurd (let no : Some (mail_as f n) ≡ None = e in cc)

  follows_as : (last : ℕ) (before : List N) (b : Option (LinkMail N)) → Follows last before b → Follows last (map f before) (box_as f b)
  follows_as last before b k = record {
    counted = λ m e. (let w = was b m e in subst (λ (z : LinkMail M). z.counter ≢ 0) (sym w.same) (k.counted w.mail w.is));
    same = λ m e r. (let w = was b m e in last_as before ∙ ap (option_map f) (k.same w.mail w.is (sym (ap (λ (z : LinkMail M). is_repeat last z) w.same) ∙ r)) ∙ sym (ap (λ (z : LinkMail M). Some z.body) w.same));
    next = λ m e r. (let w = was b m e in ap (λ (z : LinkMail M). z.counter) w.same ∙ k.next w.mail w.is (sym (ap (λ (z : LinkMail M). is_repeat last z) w.same) ∙ r));
  }

  -- ---- mailbox 0
  out_agrees : (h : OutHalf N) (s : OutSide N) (held taken : List N) → OutAgree h s held taken → OutAgree (record { last = h.last; holding = box_as f h.holding }) (out_as f s) (map f held) (map f taken)
  out_agrees h s held taken k =
      let seen_is : seen s.last_taken (box_as f s.box) ≡ seen s.last_taken s.box = seen_as s.last_taken s.box in
      record {
        stream = ap (map f) k.stream ∙ map-append f taken (news s.last_taken s.box ++ news (seen s.last_taken s.box) h.holding)
            ∙ ap (λ l. map f taken ++ l) (map-append f (news s.last_taken s.box) (news (seen s.last_taken s.box) h.holding)
            ∙ (λ i. (sym (news_as s.last_taken s.box)) i ++ (sym (news_as (seen s.last_taken s.box) h.holding)) i)
            ∙ ap (λ n. news s.last_taken (box_as f s.box) ++ news n (box_as f h.holding)) (sym seen_is));
        last = k.last ∙ sym (seen_as (seen s.last_taken s.box) h.holding) ∙ ap (λ n. seen n (box_as f h.holding)) (sym seen_is);
        number = k.number ∙ ap (λ n. counter_of n) (sym (length-map taken f));
        boxed = follows_as s.last_taken taken s.box k.boxed;
        holding = subst (λ (n : ℕ). Follows n (map f taken ++ news s.last_taken (box_as f s.box)) (box_as f h.holding)) (sym seen_is)
            (subst (λ (l : List M). Follows (seen s.last_taken s.box) l (box_as f h.holding)) (map-append f taken (news s.last_taken s.box) ∙ ap (λ l. map f taken ++ l) (sym (news_as s.last_taken s.box)))
            (follows_as (seen s.last_taken s.box) (taken ++ news s.last_taken s.box) h.holding k.holding));
      }

  -- ---- mailbox 1
  met_of : (s : InSide N) → last_met_of (in_as f s) ≡ box_as f (last_met_of s)
  met_of s = met_as s.box s.offered s.again s.last_read

  met_counter : (s : InSide N) → counter_in (last_met_of (in_as f s)) ≡ counter_in (last_met_of s)
  met_counter s = ap counter_in (met_of s) ∙ counter_as (last_met_of s)

  side_agrees : (s : InSide N) → SideAgree s → SideAgree (in_as f s)
  side_agrees s k = record {
    stands = λ b e. (let w = was s.box b e in ap (box_as f) (k.stands w.mail w.is) ∙ sym (ap Some w.same));
    again = λ e. ap (box_as f) (k.again e);
    one = λ m e a. (let w = was s.offered m e in ap (box_as f) (k.one w.mail w.is a));
    newest = k.newest ∙ sym (seen_as (seen (counter_in (last_met_of s)) (unread s.again s.box)) s.withdrawn)
        ∙ ap (λ n. seen n (box_as f s.withdrawn)) (sym (seen_as (counter_in (last_met_of s)) (unread s.again s.box)) ∙ ap (seen (counter_in (last_met_of s))) (sym (unread_as s.again s.box)) ∙ ap (λ n. seen n (unread s.again (box_as f s.box))) (sym (met_counter s)));
    unread_next = λ m e. (let w = was (unread s.again s.box) m (sym (unread_as s.again s.box) ∙ e) in ap (λ (z : LinkMail M). z.counter) w.same ∙ k.unread_next w.mail w.is ∙ ap next_counter (sym (met_counter s)));
    withdrawn_next = λ m e. (let w = was s.withdrawn m e in ap (λ (z : LinkMail M). z.counter) w.same ∙ k.withdrawn_next w.mail w.is ∙ ap next_counter (sym (met_counter s)));
  }

  knows_as : (state : InState) (h : InHalf) (s : InSide N) → Knows state h s → Knows state h (in_as f s)
  knows_as InState.Clear h s k = (k.0 ∙ sym (met_counter s), k.1, k.2)
  knows_as InState.Doubt h s k = k
  knows_as InState.Asked h s k = k
  knows_as InState.Refetch h s k = k

  in_agrees : (h : InHalf) (s : InSide N) (offered accepted : List N) → InAgree h s offered accepted → InAgree h (in_as f s) (map f offered) (map f accepted)
  in_agrees h s offered accepted k =
      let met : news h.last (last_met_of (in_as f s)) ≡ map f (news h.last (last_met_of s)) = ap (news h.last) (met_of s) ∙ news_as h.last (last_met_of s) in
      let new : bodies (unread s.again (box_as f s.box)) ≡ map f (bodies (unread s.again s.box)) = ap bodies (unread_as s.again s.box) ∙ bodies_as (unread s.again s.box) in
      record {
        side = side_agrees s k.side;
        stream = ap (map f) k.stream ∙ map-append f accepted (news h.last (last_met_of s) ++ (bodies (unread s.again s.box) ++ bodies s.withdrawn))
            ∙ ap (λ l. map f accepted ++ l) (map-append f (news h.last (last_met_of s)) (bodies (unread s.again s.box) ++ bodies s.withdrawn)
            ∙ (λ i. (sym met) i ++ (map-append f (bodies (unread s.again s.box)) (bodies s.withdrawn) ∙ (λ j. (sym new) j ++ (sym (bodies_as s.withdrawn)) j)) i));
        number = k.number ∙ ap (λ n. counter_of n) (sym (length-map accepted f));
        read = subst (λ b. Follows h.last (map f accepted) b) (sym (met_of s)) (follows_as h.last accepted (last_met_of s) k.read);
        knows = knows_as h.state h s k.knows;
        never = λ e. k.never (was_none (last_met_of s) (sym (met_of s) ∙ e));
        clear = λ e m b. (let w = was s.box m b in k.clear e w.mail w.is);
        there = λ e a m b.
            (let w = was (last_met_of s) m (sym (met_of s) ∙ b) in
            let both = k.there e a w.mail w.is in
            (ap (box_as f) both.0 ∙ sym (ap Some w.same), both.1));
      }

module _ {N M P Q S R W V : Type 0} (f : N → M) (g : P → Q) (h : S → R) (server : W → V) where
  -- the whole link
  abbrev link_as : Link N (Serving W N) → Link M (Serving V M)
  link_as w = record { halves = halves_as f w.halves; node = node_as f server w.node; held = map f w.held; taken = map f w.taken; offered = map f w.offered; accepted = map f w.accepted }

  pub link : (d : Side N P S) (n : Slave W N) → HasLink d n → HasLink (side_seen f g h d) (slave_as f server n)
  link d n k = record {
    link = link_as k.link;
    agrees = record {
      out = out_agrees f k.link.halves.out k.link.node.out k.link.held k.link.taken k.agrees.out;
      inn = in_agrees f k.link.halves.inn k.link.node.inn k.link.offered k.link.accepted k.agrees.inn;
    };
    halves = ap (halves_as f) k.halves;
    node = ap (node_as f server) k.node;
    row = λ clear b box. (let w = was f n.node.inn.box b box in let r = k.row clear w.mail w.is in (row_seen f g h r.0, ap (option_map (row_seen f g h)) r.1));
  }
