-- The rows that are proved (R135): one computed test over the table of ../specs.
pub mod Table
