-- The numbers of kinds and of nodes that a loading has by its library and its tree.
use Rattle.std.proofs.Common.{◌≡◌, ℕ, ◌-◌, ◌*◌, ◌<◌, length, ap, ◌∙◌, arith}
use Rattle.gr_base.specs.Trees.{TreeView}
use Rattle.rc_library.specs.Libraries.{LibraryView}
use Rattle.elmore_delay.specs.Loadings.{LoadingView, IsLoading}
use Rattle.buffer_plan.specs.Gathered.{IsLoadingOf}

pub record HasSizes (l : LoadingView) (kinds nodes : ℕ) : Type 0 where
  pub kinds_are : length l.library.kinds ≡ kinds
  pub nodes_are : length l.tree.nodes ≡ nodes
  pub rooted : 0 < nodes

pub sizes-of : {l : LoadingView} {t : TreeView} {lib : LibraryView} → IsLoadingOf l t lib → IsLoading l → HasSizes l (length lib.kinds) (length t.nodes)
sizes-of ours loading =
    let nodes = ap (λ (tree : TreeView). length tree.nodes) ours.tree_is in
    let rooted = loading.tree.rooted in
    record {
      kinds_are = ap (λ (library : LibraryView). length library.kinds) ours.library_is;
      nodes_are = nodes;
      rooted = omega arith;
    }

-- the pairs that a list at node 0 may have beyond one
pub pairs-of_all : {l : LoadingView} {kinds nodes : ℕ} → HasSizes l kinds nodes → length l.library.kinds * (length l.tree.nodes - 1) ≡ kinds * (nodes - 1)
pairs-of_all {l} {kinds} {nodes} sizes =
    ap (λ (n : ℕ). n * (length l.tree.nodes - 1)) sizes.kinds_are ∙ ap (λ (n : ℕ). kinds * (n - 1)) sizes.nodes_are
