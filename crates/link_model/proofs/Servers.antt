-- A step of the processor is the same for a server and for what is seen of it.
use Rattle.std.proofs.Common.{◌≡◌, is_none, ◌&&◌, List, [], ◌∷◌, refl, ap, ◌∙◌}
use Rattle.link_model.specs.Slave.{Node, Server, SeenAs, node_seen, served, mail_taken, offers, mail_offered, all_taken, all_given, is_free, node_look, node_take, node_takes, node_offer, node_offers, processor_step}

seen_taken : {B S T : Type 0} (v : Server B S) (u : Server B T) (f : S → T) → SeenAs v u f → (s : S) (xs : List B) → f (all_taken v s xs) ≡ all_taken u (f s) xs
seen_taken v u f c s [] = refl
seen_taken v u f c s (x ∷ xs) = seen_taken v u f c (v.take s x) xs ∙ ap (λ t. all_taken u t xs) (c.take s x)

seen_given : {B S T : Type 0} (v : Server B S) (u : Server B T) (f : S → T) → SeenAs v u f → (s : S) (xs : List B) → f (all_given v s xs) ≡ all_given u (f s) xs
seen_given v u f c s [] = refl
seen_given v u f c s (x ∷ xs) = seen_given v u f c (v.rest s) xs ∙ ap (λ t. all_given u t xs) (c.rest s)

seen_free : {B S T : Type 0} (v : Server B S) (u : Server B T) (f : S → T) → SeenAs v u f → (n : Node B S) → is_free v n ≡ is_free u (node_seen f n)
seen_free v u f c n = ap (λ next. (is_none n.inn.box && is_none n.inn.withdrawn) && is_none next) (c.next n.server)

pub seen_takes : {B S T : Type 0} (v : Server B S) (u : Server B T) (f : S → T) → SeenAs v u f → (n : Node B S) → node_takes v n ≡ node_takes u (node_seen f n)
seen_takes v u f c n = ap (mail_taken n.out n.out.box) (seen_free v u f c n)

pub seen_take : {B S T : Type 0} (v : Server B S) (u : Server B T) (f : S → T) → SeenAs v u f → (n : Node B S) → node_seen f (node_take v n) ≡ node_take u (node_seen f n)
seen_take v u f c n =
    let out = ap (served n.out n.out.box) (seen_free v u f c n) in
    let server = seen_taken v u f c n.server (node_takes v n) ∙ ap (all_taken u (f n.server)) (seen_takes v u f c n) in
    λ i. record { out = out i; inn = n.inn; server = server i }

pub seen_offers : {B S T : Type 0} (v : Server B S) (u : Server B T) (f : S → T) → SeenAs v u f → (n : Node B S) → node_offers v n ≡ node_offers u (node_seen f n)
seen_offers v u f c n = ap (mail_offered n.inn.box n.inn.withdrawn) (c.next n.server)

pub seen_offer : {B S T : Type 0} (v : Server B S) (u : Server B T) (f : S → T) → SeenAs v u f → (n : Node B S) → node_seen f (node_offer v n) ≡ node_offer u (node_seen f n)
seen_offer v u f c n =
    let inn = ap (offers n.inn n.inn.box n.inn.withdrawn) (c.next n.server) in
    let server = seen_given v u f c n.server (node_offers v n) ∙ ap (all_given u (f n.server)) (seen_offers v u f c n) in
    λ i. record { out = n.out; inn = inn i; server = server i }

-- what a step takes and offers, and the node behind it
pub step_takes : {B S T : Type 0} (v : Server B S) (u : Server B T) (f : S → T) → SeenAs v u f → (n : Node B S) → node_takes v (node_look n) ≡ node_takes u (node_look (node_seen f n))
step_takes v u f c n = seen_takes v u f c (node_look n)

pub step_offers : {B S T : Type 0} (v : Server B S) (u : Server B T) (f : S → T) → SeenAs v u f → (n : Node B S) → node_offers v (node_take v (node_look n)) ≡ node_offers u (node_take u (node_look (node_seen f n)))
step_offers v u f c n =
    seen_offers v u f c (node_take v (node_look n)) ∙ ap (node_offers u) (seen_take v u f c (node_look n))

pub step_seen : {B S T : Type 0} (v : Server B S) (u : Server B T) (f : S → T) → SeenAs v u f → (n : Node B S) → node_seen f (processor_step v n) ≡ processor_step u (node_seen f n)
step_seen v u f c n =
    seen_offer v u f c (node_take v (node_look n)) ∙ ap (node_offer u) (seen_take v u f c (node_look n))
