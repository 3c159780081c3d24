-- What laying a limit does to a list of points, as a run of small changes of three kinds, and what each such run keeps.
use mathlib.Core.Path.{◌≡◌, refl, sym, ◌∙◌, subst}
use mathlib.Core.Logic.{◌⊎◌, inl, inr}
use mathlib.Core.Bool.{Bool, true, false, not, cond}
use mathlib.Core.List.{List, [], ◌∷◌}
use lib.Dec.{T}
use lib.Ieee as Ieee
use lib.Ieee.{Float}
use lib.Ieee.Fits.{and_l, and_r}
use Rattle.ieee.specs.Number.{real}
use Rattle.ieee.specs.Speed.{min_speed}
use Rattle.ieee.proofs.Order.{le_trans, eq_refl, eq_trans, eq-real-l, ne-is, of-true}
use Rattle.ieee.proofs.Speed.{min_speed-cong, min_speed-again, min_speed-real}
use Rattle.speed.specs.Points.{Point, point}
use Rattle.speed.specs.Posted.{passed, posted, SortedFrom}
use Rattle.speed.proofs.Reached.{passes, reaches, alike, reaches-on}
use Rattle.speed_laws.specs.Words.{covers, Every}
use Rattle.speed_laws.proofs.Post.{posted-enter}

-- a point with its speed lowered to the limit's
abbrev pub lowered : Float → Point → Point
lowered v p = point p.offset (min_speed p.speed v)

-- changes of ps to qs by a limit from s to e at v
pub data Change (s e v : Float) : List Point → List Point → Type 0 where
  -- none; one behind a point in front; one run and then another
  none : {ps : List Point} → Change s e v ps ps
  next : {ps qs : List Point} (p : Point) → Change s e v ps qs → Change s e v (p ∷ ps) (p ∷ qs)
  then : {ps qs rs : List Point} → Change s e v ps qs → Change s e v qs rs → Change s e v ps rs
  -- after a point comes another with its speed, at s or at e
  enter : (q : Point) (o : Float) (t : List Point) → (o ≡ s) ⊎ (o ≡ e) → T (Ieee.le q.offset o) → SortedFrom o t → Change s e v (q ∷ t) (q ∷ point o q.speed ∷ t)
  -- a point not before s is lowered, and the next one is at or before e
  lower : (p : Point) (t : List Point) → T (Ieee.le s p.offset) → T (reaches e t) → Change s e v (p ∷ t) (lowered v p ∷ t)
  -- a point not before s goes out, as its speed equals that of the point before
  out : (q p : Point) (t : List Point) → T (Ieee.le s p.offset) → T (Ieee.le q.offset p.offset) → T (Ieee.eq q.speed p.speed) → Change s e v (q ∷ p ∷ t) (q ∷ t)

-- ---- the order

-- without its first point a sorted list is sorted
pub past : (o : Float) (p : Point) (ps : List Point) → SortedFrom o (p ∷ ps) → SortedFrom o ps
past o p [] h = tt
past o p (q ∷ ps) h = (le_trans o p.offset q.offset h.0 h.1.0, h.1.1)

-- Points that are sorted from o on stay so.
pub change-order : {s e v : Float} {ps qs : List Point} (o : Float) → Change s e v ps qs → SortedFrom o ps → SortedFrom o qs
change-order o none h = h
change-order o (next p c) h = (h.0, change-order p.offset c h.1)
change-order o (then c d) h = change-order o d (change-order o c h)
change-order o (enter q x t w l k) h = (h.0, (l, k))
change-order o (lower p t l r) h = h
change-order o (out q p t l k e) h = (h.0, past q.offset p t h.1)

-- ---- the kinds

-- Offsets and speeds stay of their kinds.
pub change-every : (O W : Float → Type 0) {s e v : Float} {ps qs : List Point} → O s → O e → ((u : Float) → W u → W (min_speed u v)) → Change s e v ps qs → Every O W ps → Every O W qs
change-every O W os oe low none n = n
change-every O W os oe low (next p c) n = (n.0, n.1, change-every O W os oe low c n.2)
change-every O W os oe low (then c d) n = change-every O W os oe low d (change-every O W os oe low c n)
change-every O W os oe low (enter q o t w l k) n = (n.0, n.1, (elim w [ inl a ↦ subst O (sym a) os | inr a ↦ subst O (sym a) oe ], n.1, n.2))
change-every O W os oe low (lower p t l r) n = (n.0, low p.speed n.1, n.2)
change-every O W os oe low (out q p t l k e) n = (n.0, n.1, n.2.2)

-- ---- the posted speed

module _ (s v x : Float) where
  -- t, posted at x, comes of w: it is w, or from s on it equals w or the smaller of w and v
  abbrev pub Near : Float → Float → Type 0
  Near t w = (t ≡ w) ⊎ (T (Ieee.le s x) × (T (real v) → T (real w) → T (Ieee.eq t w) ⊎ T (Ieee.eq t (min_speed w v))))

  -- lowered twice is lowered once
  again : (t u w : Float) → T (real v) → T (real w) → T (Ieee.eq t (min_speed u v)) → T (Ieee.eq u (min_speed w v)) → T (Ieee.eq t (min_speed w v))
  again t u w f g h k = eq_trans t (min_speed u v) (min_speed w v) h (rw (min_speed-again w v g f) at (min_speed-cong u (min_speed w v) v v k (eq_refl v f)))

  near-chain : (t u w : Float) → Near t u → Near u w → Near t w
  near-chain t u w h k = elim h [
    | inl a ↦ subst (λ (y : Float). Near y w) (sym a) k
    | inr a ↦ elim k [
      | inl b ↦ subst (λ (y : Float). Near t y) b (inr a)
      | inr b ↦ inr (
        a.0,
        λ f g. elim (b.1 f g) [
          | inl c ↦ elim (a.1 f (eq-real-l u w c)) [ inl d ↦ inl (eq_trans t u w d c) | inr d ↦ inr (eq_trans t (min_speed u v) (min_speed w v) d (min_speed-cong u w v v c (eq_refl v f))) ]
          | inr c ↦ elim (a.1 f (eq-real-l u (min_speed w v) c)) [ inl d ↦ inr (eq_trans t u (min_speed w v) d c) | inr d ↦ inr (again t u w f g d c) ]
        ],
      )
    ]
  ]

  near-posted : (ps : List Point) (t w : Float) → Near t w → Near (posted x ps t) (posted x ps w)
  near-posted [] t w h = h
  near-posted (p ∷ ps) t w h = near-posted ps (passed x p t) (passed x p w) (pick (Ieee.le p.offset x))
    where
      pick : (b : Bool) → Near (cond b p.speed t) (cond b p.speed w)
      pick true = inl refl
      pick false = h

  -- What is posted at x after a run of changes comes of what was posted before.
  pub change-near : {e : Float} {ps qs : List Point} (u : Float) → Change s e v ps qs → Near (posted x qs u) (posted x ps u)
  change-near u none = inl refl
  change-near u (next p c) = change-near (passed x p u) c
  change-near u (then {ps} {qs} {rs} c d) = near-chain (posted x rs u) (posted x qs u) (posted x ps u) (change-near u d) (change-near u c)
  change-near u (enter q o t w l k) = inl (posted-enter x u [] q o t l)
  change-near u (lower p t l r) = near-posted t (passed x (lowered v p) u) (passed x p u) (pick (Ieee.le p.offset x) refl)
    where
      pick : (b : Bool) → Ieee.le p.offset x ≡ b → Near (cond b (min_speed p.speed v) u) (cond b p.speed u)
      pick true h = inr (le_trans s p.offset x l (of-true h), λ f g. inr (eq_refl (min_speed p.speed v) (min_speed-real p.speed v g f)))
      pick false h = inl refl
  change-near u (out q p t l k e) = near-posted t (passed x q u) (passed x p (passed x q u)) (pick (Ieee.le p.offset x) refl)
    where
      pick : (b : Bool) → Ieee.le p.offset x ≡ b → Near (passed x q u) (cond b p.speed (passed x q u))
      pick true h =
          rw (passes x q u (le_trans q.offset p.offset x k (of-true h)))
          (inr (le_trans s p.offset x l (of-true h), λ f g. inl e))
      pick false h = inl refl

  -- What equals the smaller of y and v goes on doing so.
  pub change-met : {e : Float} {ps qs : List Point} (u y : Float) → Change s e v ps qs → T (real v) → T (real y) → T (Ieee.eq (posted x ps u) (min_speed y v)) → T (Ieee.eq (posted x qs u) (min_speed y v))
  change-met {ps = ps} {qs = qs} u y c f g h = elim (change-near u c) [
    | inl k ↦ subst (λ (t : Float). T (Ieee.eq t (min_speed y v))) (sym k) h
    | inr k ↦ elim (k.1 f (eq-real-l (posted x ps u) (min_speed y v) h)) [
      | inl a ↦ eq_trans (posted x qs u) (posted x ps u) (min_speed y v) a h
      | inr a ↦ again (posted x qs u) (posted x ps u) y f g a h
    ]
  ]

-- ---- the posted speed past the limit's end

module _ (x : Float) where
  -- t equals w, if that is a number
  abbrev Same : Float → Float → Type 0
  Same t w = T (real w) → T (Ieee.eq t w)

  same-posted : (ps : List Point) (t w : Float) → Same t w → Same (posted x ps t) (posted x ps w)
  same-posted [] t w h = h
  same-posted (p ∷ ps) t w h = same-posted ps (passed x p t) (passed x p w) (pick (Ieee.le p.offset x))
    where
      pick : (b : Bool) → Same (cond b p.speed t) (cond b p.speed w)
      pick true = eq_refl p.speed
      pick false = h

  -- From the limit's end on what is posted after a run of changes equals what was posted before.
  pub change-past : {s e v : Float} {ps qs : List Point} (u : Float) → Change s e v ps qs → T (Ieee.le e x) → Same (posted x qs u) (posted x ps u)
  change-past {ps = ps} u none l = eq_refl (posted x ps u)
  change-past u (next p c) l = change-past (passed x p u) c l
  change-past u (then {ps} {qs} {rs} c d) l =
      λ h. let k = change-past u c l h in eq_trans (posted x rs u) (posted x qs u) (posted x ps u) (change-past u d l (eq-real-l (posted x qs u) (posted x ps u) k)) k
  change-past u (enter q o t w m k) l = rw (posted-enter x u [] q o t m) (eq_refl (posted x (q ∷ t) u))
  change-past {e = e} {v = v} u (lower p t m r) l = rw (alike x t (passed x (lowered v p) u) (passed x p u) (reaches-on x e t l r)) (eq_refl (posted x (p ∷ t) u))
  change-past u (out q p t m k e) l = same-posted t (passed x q u) (passed x p (passed x q u)) (pick (Ieee.le p.offset x) refl)
    where
      pick : (b : Bool) → Ieee.le p.offset x ≡ b → Same (passed x q u) (cond b p.speed (passed x q u))
      pick true h = λ r. rw (passes x q u (le_trans q.offset p.offset x k (of-true h))) e
      pick false h = eq_refl (passed x q u)

-- ---- a limit laid

-- an offset that the limit covers is not before its start, and before its end
pub covers-from : (s e x : Float) → T (covers s e x) → T (Ieee.le s x)
covers-from s e x h = and_l (Ieee.le s x) (Ieee.lt x e) h

pub covers-to : (s e x : Float) → T (covers s e x) → T (Ieee.lt x e)
covers-to s e x h = and_r (Ieee.le s x) (Ieee.lt x e) h

-- qs come of ps by such changes, and where the limit covers x the posted speed is the smaller of what it was and the limit's, as a number
pub record Laid (s e v : Float) (ps qs : List Point) : Type 0 where
  pub change : Change s e v ps qs
  pub met : (x u : Float) → T (covers s e x) → T (real v) → T (real (posted x ps u)) → T (Ieee.eq (posted x qs u) (min_speed (posted x ps u) v))

-- a point in front stays out of it
pub laid_next : {s e v : Float} {ps qs : List Point} (p : Point) → Laid s e v ps qs → Laid s e v (p ∷ ps) (p ∷ qs)
laid_next p l = record { change = next p l.change; met = λ x u. l.met x (passed x p u) }

-- a speed that the limit does not change
pub low-already : (v u : Float) → Ieee.ne u (min_speed u v) ≡ false → T (Ieee.eq u (min_speed u v))
low-already v u h = go (Ieee.eq u (min_speed u v)) (sym (ne-is u (min_speed u v)) ∙ h)
  where
    go : (b : Bool) → not b ≡ false → T b
    go true k = tt
    go false k = of-true (sym k)
