-- The loading of a net's tree, from a library that was read for the design.
use Rattle.std.proofs.Common.{◌≡◌, ℕ, length, get_or, Some, slice_get, sym, ap, subst, ◌∙◌, arith}
use Rattle.std.proofs.lemmas.List.Sums.{get_or-le-sum_by}
use Rattle.std.proofs.lemmas.Option.{slice_get_within, get_or_from_slice_get}
use Rattle.gr_base.specs.Designs.{DesignView, IsDesign, IsNet}
use Rattle.gr_base.specs.Plans.{IsRouteOfNet}
use Rattle.gr_base.specs.Trees.{TreeView, IsTree}
use Rattle.gr_base.specs.declared.frame.Net.{Net}
use Rattle.gr_base.specs.declared.grid.Shape.{Shape}
use Rattle.rc_library.proofs.LibraryLemmas.{has_net, has_pin}
use Rattle.rc_library.specs.Libraries.{LibraryView, Sizes, IsLibraryOf}
use Rattle.elmore_delay.specs.Loadings.{IsLoading}

-- a net's tree fits the library
pub record Fits (lib : LibraryView) (t : TreeView) : Type 0 where
  pub columns : lib.sizes.columns ≡ t.shape.columns
  pub rows : lib.sizes.rows ≡ t.shape.rows
  pub layers : length lib.wires ≡ t.shape.layers

pub fits : (d : DesignView) (lib : LibraryView) (number : ℕ) (net : Net) (t : TreeView) → IsLibraryOf d lib →
    slice_get d.nets number ≡ Some net → IsRouteOfNet d number t → Fits lib t
fits d lib number net t is found routes =
    let shape = sym (routes net found).shape in
    record {
      columns = ap (λ (s : Sizes). s.columns) is.sizes ∙ ap (λ (g : Shape). g.columns) shape;
      rows = ap (λ (s : Sizes). s.rows) is.sizes ∙ ap (λ (g : Shape). g.rows) shape;
      layers = is.layers ∙ ap (λ (g : Shape). g.layers) shape;
    }

pub loading-of : (d : DesignView) (lib : LibraryView) (number : ℕ) (net : Net) (t : TreeView) → IsDesign d → IsLibraryOf d lib →
    slice_get d.nets number ≡ Some net → IsRouteOfNet d number t → IsTree t →
    IsLoading (record { library = lib; net = number; pins = net.pins; tree = t })
loading-of d lib number net t design is found routes tree =
    let below = slice_get_within d.nets number net found in
    let this : get_or d.nets number net ≡ net = get_or_from_slice_get d.nets number net net found in
    let one : IsNet d.frame.shape net = subst (λ (n : Net). IsNet d.frame.shape n) this (design.nets number net below) in
    let fit = fits d lib number net t is found routes in
    let few = get_or-le-sum_by (λ (n : Net). length n.pins) d.nets number net below in
    let long = ap (λ (n : Net). length n.pins) this in
    let most = design.few_pins in
    record {
      library = is.library;
      columns = fit.columns;
      rows = fit.rows;
      layers = fit.layers;
      net = has_net d lib number is below;
      pins = λ pin within. has_pin d lib number pin net is found within;
      some_pins = one.driver;
      few_pins = omega (arith, few, long, most);
      tree = tree;
      held = (routes net found).pins;
    }
